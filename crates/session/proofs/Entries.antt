-- The blocks of a piece message, one after the other: what each keeps, and what it says.
use Rattle.std.proofs.Common.{◌≡◌, ◌≢◌, ◌⊎◌, ℕ, zero, suc, ◌+◌, ◌-◌, ◌*◌, ◌<◌, min, true, List, [], ◌∷◌, ◌++◌, length, get_or, Option, Some, None, inl, inr}
use Rattle.std.proofs.Common.{refl, sym, ap, ap₂, ◌∙◌, subst, subst₂, arith, length-append, take}
use Rattle.std.specs.Prelude.{slice_get}
use Rattle.std.specs.FinSet as leaves
use Rattle.std.proofs.lemmas.Option.{same_Some, none-some, slice_get_within, slice_get-get_or}
use Rattle.std.proofs.lemmas.Bool.{cases_eq}
use Rattle.std.proofs.lemmas.List.{length-set, get_or_append_left}
use Rattle.std.proofs.Math.Seq.{get_or-append_seam}
use Rattle.sha2.specs.Sha256.{sha256}
use Rattle.hashtree.specs.Tree.{block, block_count}
use Rattle.node_maps.specs.Known.{Known, look}
use Rattle.node_maps.specs.Places.{IsKnown}
use Rattle.partial_tree.specs.TreeRoot.{TreeRoot, Fits}
use Rattle.partial_tree.specs.Closed.{IsClosed, Collision, whole}
use Rattle.partial_tree.specs.Kept.{HasBlockSize, RefusesBlock}
use Rattle.partial_tree.specs.declared.refusal.BlockRefusal.{BlockRefusal}
use Rattle.partial_tree.specs.declared.refusal.BlockRefusal.TheVariants.{BadPlace, BadSize, Unproved, BadBlock}
use Rattle.tree_laws.proofs.Keeping.{marked-known}
use Rattle.tree_laws.proofs.Headline.{block-size, leaf_or_collision, block_or_collision}
use Rattle.chains.specs.Chain.{Chain}
use Rattle.chains.proofs.Chains.{Chain-same, Chain-within, StepAt, step_at}
use Rattle.session.specs.Blocks.{BlocksSeen, Cut, cuts}
use Rattle.session.specs.Layouts.{SessionSeen, roots, tree_of}
use Rattle.session.specs.Session.{TreeState, IsTree, HasClosedTrees, IsInFile, IsMarkedBlock, BlockStep, AreTaken, IsFileBlock, AreBlocks}
use Rattle.session.specs.SafeStep.{TakesTrueBlock, VerifiesTrueBlocks}
use Rattle.session.proofs.States.{set-read, set-write, set-other}

-- ---- the step of one block

module _ (S : SessionSeen) (closed_trees : HasClosedTrees S) (file b : ℕ) (bytes : List ℕ) (S' : SessionSeen) (h : IsMarkedBlock S file b bytes S') where
  abbrev marked_state : TreeState
  marked_state = record h.in_file.state { marked = leaves.insert h.in_file.state.marked b }

  -- the torrent's trees stay
  same_tree_before : (k : ℕ) (tree : TreeRoot) → slice_get (roots S') k ≡ Some tree → slice_get (roots S) k ≡ Some tree
  same_tree_before k tree at = ap (λ U. slice_get (roots U) k) (sym h.state_after) ∙ at

  read_after : (k : ℕ) (s : TreeState) → slice_get S'.trees k ≡ Some s
      → ((k ≡ h.in_file.tree_number) × (s ≡ marked_state)) ⊎ ((k ≢ h.in_file.tree_number) × (slice_get S.trees k ≡ Some s))
  read_after k s at = set-read S.trees h.in_file.tree_number k marked_state s (ap (λ U. slice_get U.trees k) (sym h.state_after) ∙ at)

  marked-closed : HasClosedTrees S'
  marked-closed = record {
    count = ap (λ U. length U.trees) h.state_after ∙ length-set S.trees h.in_file.tree_number marked_state ∙ closed_trees.count
        ∙ ap (λ U. length (roots U)) (sym h.state_after);
    closed = λ k tree s at. elim (read_after k s at.state_is) [
      | inl (same, is) ↦
          let one : h.in_file.tree ≡ tree = same_Some h.in_file.tree tree (sym h.in_file.is_tree.tree_is ∙ ap (slice_get (roots S)) (sym same)
          ∙ same_tree_before k tree at.tree_is) in
          subst₂ (λ (tr : TreeRoot) (st : TreeState). IsClosed tr (look st.known)) one (sym is) (closed_trees.closed h.in_file.tree_number h.in_file.tree
          h.in_file.state h.in_file.is_tree)
      | inr (other, old) ↦ closed_trees.closed k tree s (record { tree_is = same_tree_before k tree at.tree_is; state_is = old })
    ];
    marks = λ k tree s at i marked. elim (read_after k s at.state_is) [
      | inl (same, is) ↦
          let here : leaves.contains (leaves.insert h.in_file.state.marked b) i ≡ true = ap (λ (st : TreeState). leaves.contains st.marked i) (sym is)
          ∙ marked in
          let (v, e) = marked-known h.in_file.state b i (sha256 bytes) h.leaf_known (closed_trees.marks h.in_file.tree_number h.in_file.tree h.in_file.state
          h.in_file.is_tree i) here in
          (v, ap (λ (st : TreeState). look st.known 0 i) is ∙ e)
      | inr (other, old) ↦ closed_trees.marks k tree s (record { tree_is = same_tree_before k tree at.tree_is; state_is = old }) i marked
    ];
  }

step-closed : (file : ℕ) (S : SessionSeen) (c : Cut) (r : Option BlockRefusal) (S' : SessionSeen) → HasClosedTrees S → BlockStep file S c r S'
    → HasClosedTrees S'
step-closed file S c None S' closed_trees h = marked-closed S closed_trees file c.number c.bytes S' h
step-closed file S c (Some r) S' closed_trees h = subst HasClosedTrees (sym h.1) closed_trees

step-torrent : (file : ℕ) (S : SessionSeen) (c : Cut) (r : Option BlockRefusal) (S' : SessionSeen) → BlockStep file S c r S' → S'.torrent ≡ S.torrent
step-torrent file S c None S' h = ap (λ U. U.torrent) h.state_after
step-torrent file S c (Some r) S' h = ap (λ U. U.torrent) h.1

-- the tree that was, which knows what it knew
pub record Later (S' : SessionSeen) (n : ℕ) (tree : TreeRoot) (s : TreeState) : Type 0 where
  pub later : TreeState
  pub later_is : IsTree S' n tree later
  pub known : later.known ≡ s.known

abbrev pub AreLater : SessionSeen → SessionSeen → Type 0
AreLater S S' = (n : ℕ) (tree : TreeRoot) (s : TreeState) → IsTree S n tree s → Later S' n tree s

pub step-known : (file : ℕ) (S : SessionSeen) (c : Cut) (r : Option BlockRefusal) (S' : SessionSeen) → BlockStep file S c r S'
    → (n : ℕ) (tree : TreeRoot) (s : TreeState) → IsTree S n tree s → Later S' n tree s
step-known file S c (Some r) S' h n tree s at = record { later = s; later_is = subst (λ U. IsTree U n tree s) (sym h.1) at; known = refl }
step-known file S c None S' h n tree s at = elim (cases_eq n h.in_file.tree_number) [
  | inl same ↦
      let state : h.in_file.state ≡ s = same_Some h.in_file.state s (sym h.in_file.is_tree.state_is ∙ sym (ap (slice_get S.trees) same) ∙ at.state_is) in
      record {
        later = record h.in_file.state { marked = leaves.insert h.in_file.state.marked c.number };
        later_is = record {
          tree_is = ap (λ U. slice_get (roots U) n) h.state_after ∙ at.tree_is;
          state_is = ap₂ (λ U i. slice_get U.trees i) h.state_after same ∙ set-write S.trees h.in_file.tree_number _ h.in_file.state h.in_file.is_tree.state_is;
        };
        known = ap (λ (st : TreeState). st.known) state;
      }
  | inr other ↦ record {
    later = s;
    later_is = record {
      tree_is = ap (λ U. slice_get (roots U) n) h.state_after ∙ at.tree_is;
      state_is = ap (λ U. slice_get U.trees n) h.state_after
          ∙ set-other S.trees h.in_file.tree_number n _ s other at.state_is;
    };
    known = refl;
  }
]

-- ---- what is said of one block

-- what is known of a block that is marked, or refused
abbrev pub Says : TreeRoot → Known → Cut → Option BlockRefusal → Type 0
Says tree K c None = (c.number < block_count tree.length) × (look K 0 c.number ≡ Some (sha256 c.bytes))
Says tree K c (Some r) = RefusesBlock tree.length (look K) c.number c.bytes r

-- a file has one tree
module _ (S : SessionSeen) (file b : ℕ) (n : ℕ) (tree : TreeRoot) (s : TreeState) (of' : tree_of S file ≡ Some n) (at : IsTree S n tree s)
    (p : IsInFile S file b) where
  pub same_number : p.tree_number ≡ n
  same_number = same_Some p.tree_number n (sym p.of_file ∙ of')

  pub same_tree : p.tree ≡ tree
  same_tree = same_Some p.tree tree (sym p.is_tree.tree_is ∙ ap (slice_get (roots S)) same_number ∙ at.tree_is)

  pub same_state : p.state ≡ s
  same_state = same_Some p.state s (sym p.is_tree.state_is ∙ ap (slice_get S.trees) same_number ∙ at.state_is)

pub step-says : (file : ℕ) (S : SessionSeen) (c : Cut) (r : Option BlockRefusal) (S' : SessionSeen) → BlockStep file S c r S'
    → (n : ℕ) (tree : TreeRoot) (s : TreeState) → tree_of S file ≡ Some n → IsTree S n tree s → Says tree s.known c r
step-says file S c None S' h n tree s of' at =
    let one : h.in_file.tree ≡ tree = same_tree S file c.number n tree s of' at h.in_file in
    let state : h.in_file.state ≡ s = same_state S file c.number n tree s of' at h.in_file in (
      subst (λ (tr : TreeRoot). c.number < block_count tr.length) one h.in_file.inside,
      subst (λ (st : TreeState). look st.known 0 c.number ≡ Some (sha256 c.bytes)) state h.leaf_known,
    )
step-says file S c (Some r) S' ((p, refused), same) n tree s of' at =
    subst₂ (λ (tr : TreeRoot) (st : TreeState). RefusesBlock tr.length (look st.known) c.number
    c.bytes r)
    (same_tree S file c.number n tree s of' at p) (same_state S file c.number n tree s of' at p) refused

-- a marked block is the file's, or a collision is named
pub says-block : (S : SessionSeen) → HasClosedTrees S → (file : ℕ) (c : Cut) (n : ℕ) (tree : TreeRoot) (s : TreeState) → tree_of S file ≡ Some n
    → IsTree S n tree s
    → Says tree s.known c None → IsFileBlock S file c.number c.bytes
says-block S closed_trees file c n tree s of' at says = record {
  in_file = record { tree_number = n; tree = tree; state = s; of_file = of'; is_tree = at; inside = says.0 };
  is_block = λ f fits. block_or_collision tree (look s.known) f (closed_trees.closed n tree s at) fits c.number says.0 (sha256 c.bytes) c.bytes says.1 refl;
}

-- the true block of a known leaf is not refused, or a collision is named
module _ (S : SessionSeen) (closed_trees : HasClosedTrees S) (file b : ℕ) (bytes : List ℕ) (p : IsInFile S file b)
    (f : List ℕ) (fits : Fits f p.tree.length p.tree.root)
    (is_block : bytes ≡ block f b)
    (known : IsKnown (look p.state.known) 0 b) where
  has_size : HasBlockSize p.tree.length b bytes
  has_size = ap length is_block ∙ block-size f b ∙ ap (λ n. min 16384 (n - 16384 * b)) fits.same_length

  pub never-refused : (r : BlockRefusal)
      → RefusesBlock p.tree.length (look p.state.known) b bytes r
      → Collision (whole f) (look p.state.known)
  never-refused BadPlace h = absurd h
  never-refused BadSize wrong = absurd (wrong has_size)
  never-refused Unproved (size, none) = absurd (none-some known.0 (sym none ∙ known.1))
  never-refused BadBlock (size, (leaf, is_leaf, differ)) =
      elim (leaf_or_collision p.tree (look p.state.known) f (closed_trees.closed p.tree_number p.tree p.state p.is_tree) fits b p.inside leaf is_leaf) [
        | inl same ↦ absurd (differ (ap sha256 is_block ∙ sym same))
        | inr collision ↦ collision
      ]

pub says-taken : (S : SessionSeen) → HasClosedTrees S → (file : ℕ) (c : Cut) (n : ℕ) (tree : TreeRoot) (s : TreeState) (r : Option BlockRefusal)
    → tree_of S file ≡ Some n → IsTree S n tree s → Says tree s.known c r → TakesTrueBlock S file c.number c.bytes r
says-taken S closed_trees file c n tree s None of' at says = λ p f fits is_block known. inl refl
says-taken S closed_trees file c n tree s (Some r) of' at says = λ p f fits is_block known.
    inr (never-refused S closed_trees file c.number c.bytes p f fits is_block known r
    (subst₂ (λ (tr : TreeRoot) (st : TreeState). RefusesBlock tr.length (look st.known) c.number
    c.bytes r)
    (sym (same_tree S file c.number n tree s of' at p)) (sym (same_state S file c.number n tree s of' at p)) says))

-- ---- all blocks of a message

module _ (file : ℕ) where
  pub chain-closed : (S : SessionSeen) (cs : List Cut) (rs : List (Option BlockRefusal)) (S' : SessionSeen) → HasClosedTrees S
      → Chain (BlockStep file) S cs rs S' → HasClosedTrees S'
  chain-closed S cs rs S' closed_trees run =
      Chain-within (BlockStep file) (λ A B. HasClosedTrees A → HasClosedTrees B) (λ A closed. closed) (λ A B C first next closed. next (first closed))
      (λ A c r B step closed. step-closed file A c r B closed step) S cs rs S' run closed_trees

  pub chain-torrent : (S : SessionSeen) (cs : List Cut) (rs : List (Option BlockRefusal)) (S' : SessionSeen) → Chain (BlockStep file) S cs rs S'
      → S'.torrent ≡ S.torrent
  chain-torrent = Chain-same (BlockStep file) (λ (A : SessionSeen). A.torrent) (step-torrent file)

  pub chain-known : (S : SessionSeen) (cs : List Cut) (rs : List (Option BlockRefusal)) (S' : SessionSeen) → Chain (BlockStep file) S cs rs S' → AreLater S S'
  chain-known = Chain-within (BlockStep file) AreLater (λ A n tree s at. record { later = s; later_is = at; known = refl })
      (λ A B C first next n tree s at.
      let a : Later B n tree s = first n tree s at in
      let b : Later C n tree a.later = next n tree a.later a.later_is in
      record { later = b.later; later_is = b.later_is; known = b.known ∙ a.known })
      (step-known file)

  -- each says what holds of the state before them all
  pub chain-says : (S : SessionSeen) (cs : List Cut) (rs : List (Option BlockRefusal)) (S' : SessionSeen) → Chain (BlockStep file) S cs rs S'
      → (n : ℕ) (tree : TreeRoot) (s : TreeState) → tree_of S file ≡ Some n → IsTree S n tree s
      → (m : ℕ) (c : Cut) (r : Option BlockRefusal) → slice_get cs m ≡ Some c → slice_get rs m ≡ Some r → Says tree s.known c r
  chain-says S cs rs S' run n tree s of' at m c r is stated =
      let here : StepAt (BlockStep file) S cs rs m c r S' = step_at (BlockStep file) S cs rs m c r S' is stated run in
      let M : SessionSeen = here.from in
      let a : Later M n tree s = chain-known S (take m cs) (take m rs) M here.before n tree s at in
      let same : M.torrent ≡ S.torrent = chain-torrent S (take m cs) (take m rs) M here.before in
      let of_later : tree_of M file ≡ Some n = ap (λ t. tree_of (record M { torrent = t }) file) same ∙ of' in
      subst (λ (K : Known). Says tree K c r) a.known (step-says file M c r here.to here.step n tree a.later of_later a.later_is)

-- ---- the cuts of a message

pub cuts-length : (first : ℕ) (bytes : List ℕ) (k : ℕ) → length (cuts first bytes k) ≡ k
unfolding cuts
cuts-length first bytes zero = refl
cuts-length first bytes (suc k) =
    let before : length (cuts first bytes k) ≡ k = cuts-length first bytes k in
    omega (arith, before, length-append (cuts first bytes k) (record { number = first + k; bytes = block bytes k } ∷ []))

pub cuts-at : (first : ℕ) (bytes : List ℕ) (k m : ℕ) → m < k → slice_get (cuts first bytes k) m ≡ Some (record { number = first + m; bytes = block bytes m })
unfolding cuts
cuts-at first bytes zero m low = absurd (omega (arith, low))
cuts-at first bytes (suc k) m low =
    let cut : ℕ → Cut = λ i. record { number = first + i; bytes = block bytes i } in
    let before : List Cut = cuts first bytes k in
    let count : length before ≡ k = cuts-length first bytes k in
    let all : length (before ++ cut k ∷ []) ≡ suc k = omega (arith, count, length-append before (cut k ∷ [])) in
    slice_get-get_or (before ++ cut k ∷ []) m (cut m) (omega (arith, all, low)) ∙ ap Some (elim (cases_eq m k) [
      | inl same ↦ ap (λ i. get_or (before ++ cut k ∷ []) i (cut m)) (same ∙ sym count) ∙ get_or-append_seam before (cut k) [] (cut m) ∙ ap cut (sym same)
      | inr other ↦
          let inside : m < k = omega (arith, low, other) in
          get_or_append_left before (cut k ∷ []) (cut m) m (omega (arith, inside, count))
          ∙ same_Some (get_or before m (cut m)) (cut m) (sym (slice_get-get_or before m (cut m) (omega (arith, inside, count)))
          ∙ cuts-at first bytes k m inside)
    ])

-- ---- a message of blocks

module _ (S : SessionSeen) (closed_trees : HasClosedTrees S) (index begin : ℕ) (bytes : List ℕ) (v : BlocksSeen) (S' : SessionSeen)
    (h : AreTaken S index begin bytes v S') where
  abbrev cut_at : ℕ → Cut
  cut_at m = record { number = v.first + m; bytes = block bytes m }

  entry-says : (m : ℕ) (r : Option BlockRefusal) → slice_get v.refusals m ≡ Some r → Says h.in_file.tree h.in_file.state.known (cut_at m) r
  entry-says m r stated =
      chain-says v.file S (cuts v.first bytes (length v.refusals)) v.refusals S' h.each h.in_file.tree_number h.in_file.tree h.in_file.state h.in_file.of_file
      h.in_file.is_tree
      m (cut_at m) r (cuts-at v.first bytes (length v.refusals) m (slice_get_within v.refusals m r stated)) stated

  pub taken-blocks : AreBlocks S index begin bytes v
  taken-blocks = record {
    at = h.at;
    verified = λ m stated. says-block S closed_trees v.file (cut_at m) h.in_file.tree_number h.in_file.tree h.in_file.state h.in_file.of_file h.in_file.is_tree
        (entry-says m None stated);
  }

  pub taken-true : VerifiesTrueBlocks S bytes v
  taken-true = λ m r stated.
      says-taken S closed_trees v.file (cut_at m) h.in_file.tree_number h.in_file.tree h.in_file.state r h.in_file.of_file h.in_file.is_tree
      (entry-says m r stated)
