-- Each step of a closed_trees state does no harm, and so does a run of steps.
use Rattle.std.proofs.Common.{◌≡◌, ◌⊎◌, ℕ, Result, Ok, Err, IfOk, IfErr, List, length, get_or, Some, None, ◌<◌, inl, inr, refl, sym, ap, ◌∙◌, subst}
use Rattle.std.proofs.Common.{subst₂, arith}
use Rattle.std.specs.Prelude.{map, slice_get}
use Rattle.std.specs.FinMap.{empty}
use Rattle.std.specs.FinSet as leaves
use Rattle.opening.specs.Description.{Description}
use Rattle.std.specs.Borrow.{Bor}
use Rattle.std.proofs.lemmas.Option.{same_Some, none-some, slice_get_within, slice_get-get_or}
use Rattle.wire.specs.declared.message.Ask.{Ask}
use Rattle.wire.specs.declared.message.Message.{Message}
use Rattle.wire.specs.declared.message.Message.TheVariants as message
use Rattle.partial_tree.specs.declared.refusal.HashRefusal.{HashRefusal}
use Rattle.partial_tree.specs.declared.refusal.HashRefusal.TheVariants.{UnknownRoot, BadRange, BadCount, BadPad, Unanchored, Mismatch, NoMemory, Unasked}
use Rattle.partial_tree.specs.declared.refusal.BlockRefusal.{BlockRefusal}
use Rattle.partial_tree.specs.declared.refusal.BlockRefusal.TheVariants.{BadPlace, BadSize, Unproved, BadBlock}
use Rattle.session.specs.declared.verdict.Verdict.{Verdict}
use Rattle.session.specs.declared.verdict.Verdict.TheVariants as verdict
use Rattle.hashtree.specs.Tree.{block}
use Rattle.partial_tree.specs.TreeRoot.{TreeRoot, Fits}
use Rattle.node_maps.specs.Digest.{Hash}
use Rattle.node_maps.specs.Places.{PartialTree, IsKnown}
use Rattle.partial_tree.specs.Closed.{Collision, whole}
use Rattle.partial_tree.specs.Claims.{IsAccepted, Refuses}
use Rattle.node_maps.specs.Known.{look}
use Rattle.session.specs.Session.{SessionSeen, TreeState, IsTree, HasClosedTrees, IsAsked, IsPlaced, IsStored, IsVerified, IsBlock, AreBlocks, AreTaken}
use Rattle.session.specs.Session.{AreRefused, IsHashRefused, IsBlockRefused, HasDistinctRoots, Step}
use Rattle.session.specs.Blocks.{BlocksSeen, Cut}
use Rattle.session.specs.Layouts.{roots, root_of_entry, tree_of}
use Rattle.tree_laws.proofs.Whole.{whole-closed}
use Rattle.tree_laws.proofs.Stored.{stored_or_collision}
use Rattle.tree_laws.proofs.Answers.{answer-stored}
use Rattle.partial_tree.proofs.Joining.{accepted-no_fault}
use Rattle.partial_tree.specs.Kept.{RefusesBlock}
use Rattle.opening.specs.Blocks.{IsBlockRun}
use Rattle.session.proofs.Entries.{same_tree, same_state, step-known, never-refused, says-block, chain-known, taken-blocks, taken-true}
use Rattle.session.proofs.OneTree.{keeps-same}
use Rattle.session.proofs.Runs.{later-keeps, step-keeps, step-torrent, verdict-true}
use Rattle.session.proofs.OneGap.{wanted-closes}
use Rattle.session.specs.SafeStep.{KeepsKnown, AreTrueHashes, StoresTrueHashes, IsAnswerFrom, StoresAnswers, IsNoRun, VerifiesTrueBlock, VerifiesTrueBlocks}
use Rattle.session.specs.SafeStep.{verdict_of, IsSafeStep}

-- ---- true hashes

module _ (S : SessionSeen) (distinct : HasDistinctRoots S) (ask : Ask) (hashes : List Hash)
    (n : ℕ) (tree : TreeRoot) (s : TreeState) (J : PartialTree) (at : IsTree S n tree s) (root : tree.root ≡ ask.root)
    (accepted : IsAccepted tree.length (look s.known) ask hashes ⊎ Collision J (look s.known)) where
  -- the tree that the ask names is this one
  refuses_this : (r : HashRefusal) → (a : IsAsked S ask) × Refuses a.tree.length (look a.state.known) ask hashes r
      → Refuses tree.length (look s.known) ask hashes r
  refuses_this r (a, refused) =
      let same : a.number ≡ n = distinct a.number n a.tree tree a.is_tree.tree_is at.tree_is (a.has_root ∙ sym root) in
      let one : a.tree ≡ tree = same_Some a.tree tree (sym a.is_tree.tree_is ∙ ap (slice_get (roots S)) same ∙ at.tree_is) in
      let state : a.state ≡ s = same_Some a.state s (sym a.is_tree.state_is ∙ ap (slice_get S.trees) same ∙ at.state_is) in
      subst₂ (λ tr st. Refuses tr.length (look st.known) ask hashes r) one state refused

  abbrev Taken : Result ℕ HashRefusal → Type 0
  Taken r = ((count : ℕ) × (r ≡ Ok count)) ⊎ ((r ≡ Err NoMemory) ⊎ Collision J (look s.known))

  never : (r : HashRefusal) → (a : IsAsked S ask) × Refuses a.tree.length (look a.state.known) ask hashes r → Taken (Err r)
  never r refused = elim accepted [
    | inl ok ↦ absurd (accepted-no_fault tree (look s.known) ask hashes r ok (refuses_this r refused).fault)
    | inr collision ↦ inr (inr collision)
  ]

  hashes_taken : (r : HashRefusal) → IsHashRefused S ask hashes r → Taken (Err r)
  hashes_taken UnknownRoot h = absurd (h n tree at.tree_is root)
  hashes_taken NoMemory h = inr (inl refl)
  hashes_taken BadRange h = never BadRange h
  hashes_taken BadCount h = never BadCount h
  hashes_taken BadPad h = never BadPad h
  hashes_taken Unanchored h = never Unanchored h
  hashes_taken Mismatch h = never Mismatch h
  hashes_taken Unasked h = never Unasked h

true_accepted : (S : SessionSeen) → HasClosedTrees S → (ask : Ask) (hashes : List Hash) (n : ℕ) (tree : TreeRoot) (s : TreeState) (f : List ℕ)
    → IsTree S n tree s
    → AreTrueHashes f tree s ask hashes → IsAccepted tree.length (look s.known) ask hashes ⊎ Collision (whole f) (look s.known)
true_accepted S closed_trees ask hashes n tree s f at are =
    stored_or_collision tree (whole f) (look s.known) ask hashes (whole-closed f tree are.fits) (closed_trees.closed n tree s at)
    are.range are.count are.from_file are.top_known

pub hashes-stored : (S : SessionSeen) → HasClosedTrees S → HasDistinctRoots S → (ask : Ask) (hashes : List Hash) (r : Result ℕ HashRefusal) (S' : SessionSeen)
    → IfOk r (λ c. IsStored S ask hashes c S') → IfErr r (λ x. IsHashRefused S ask hashes x × (S' ≡ S)) → StoresTrueHashes S ask hashes r
hashes-stored S closed_trees distinct ask hashes (Ok c) S' stored refused = λ n tree s f at are. inl (c, refl)
hashes-stored S closed_trees distinct ask hashes (Err x) S' stored refused =
    λ n tree s f at are. hashes_taken S distinct ask hashes n tree s (whole f) at are.has_root (true_accepted S closed_trees ask hashes n tree s f at are) x
    refused.0

-- ---- answers of another session

-- each tree of a torrent has a state
state_of_tree : (S : SessionSeen) → HasClosedTrees S → (n : ℕ) (tree : TreeRoot) → slice_get (roots S) n ≡ Some tree → (s : TreeState) × IsTree S n tree s
state_of_tree S closed_trees n tree at =
    let inside : n < length (roots S) = slice_get_within (roots S) n tree at in
    let low : n < length S.trees = omega (arith, inside, closed_trees.count) in
    let none : TreeState = record { known = empty; marked = leaves.empty } in
    (get_or S.trees n none, record { tree_is = at; state_is = slice_get-get_or S.trees n none low })

answer_accepted : (S J : SessionSeen) → HasClosedTrees S → (ask : Ask) (hashes : List Hash) (from : IsAnswerFrom S.torrent J ask hashes) (s : TreeState)
    → IsTree S from.asked.number from.asked.tree s
    → IsAccepted from.asked.tree.length (look s.known) ask hashes ⊎ Collision (look from.asked.state.known) (look s.known)
answer_accepted S J closed_trees ask hashes from s at =
    subst (λ hs. IsAccepted from.asked.tree.length (look s.known) ask hs ⊎ Collision (look from.asked.state.known) (look s.known)) (sym from.hashes_are)
    (answer-stored from.asked.tree (look from.asked.state.known) (look s.known) ask (from.closed.closed from.asked.number from.asked.tree from.asked.state
    from.asked.is_tree)
    (closed_trees.closed from.asked.number from.asked.tree s at) from.can from.enough)

-- the tree that was asked is one of this session's too
same_tree_at : (S J : SessionSeen) (ask : Ask) (hashes : List Hash) (from : IsAnswerFrom S.torrent J ask hashes)
    → slice_get (roots S) from.asked.number ≡ Some from.asked.tree
same_tree_at S J ask hashes from = ap (λ (d : Description). slice_get (map root_of_entry d.trees) from.asked.number) (sym from.same)
    ∙ from.asked.is_tree.tree_is

pub answers-stored : (S : SessionSeen) → HasClosedTrees S → HasDistinctRoots S → (ask : Ask) (hashes : List Hash) (r : Result ℕ HashRefusal) (S' : SessionSeen)
    → IfOk r (λ c. IsStored S ask hashes c S') → IfErr r (λ x. IsHashRefused S ask hashes x × (S' ≡ S)) → StoresAnswers S ask hashes r
answers-stored S closed_trees distinct ask hashes (Ok c) S' stored refused = λ J from. inl (c, refl)
answers-stored S closed_trees distinct ask hashes (Err x) S' stored refused = λ J from.
    let (s, at) = state_of_tree S closed_trees from.asked.number from.asked.tree (same_tree_at S J ask hashes from) in
    elim (hashes_taken S distinct ask hashes from.asked.number from.asked.tree s (look from.asked.state.known) at from.asked.has_root
    (answer_accepted S J closed_trees ask hashes from s at) x refused.0) [
      | inl taken ↦ inl taken
      | inr other ↦ inr (elim other [ inl memory ↦ inl memory | inr collision ↦ inr (s, at, collision) ])
    ]

pub hashes-keep : (S : SessionSeen) (ask : Ask) (hashes : Bor (List Hash)) (r : Result ℕ HashRefusal) (S' : SessionSeen)
    → IfOk r (λ c. IsStored S ask hashes.now c S') → IfErr r (λ x. IsHashRefused S ask hashes.now x × (S' ≡ S)) → KeepsKnown S S'
hashes-keep S ask hashes (Ok c) S' stored refused = step-keeps S (message.Hashes ask hashes) (verdict.Stored c) S' stored
hashes-keep S ask hashes (Err x) S' stored refused = step-keeps S (message.Hashes ask hashes) (verdict.HashRefused x) S' refused

-- ---- true blocks

-- one place is one file and block, in one tree
module _ (S : SessionSeen) (index begin : ℕ) (p q : IsPlaced S index begin) where
  same_pair : ◌≡◌ {A = ℕ × ℕ} (q.file, q.number) (p.file, p.number)
  same_pair = same_Some (q.file, q.number) (p.file, p.number) (sym q.at ∙ p.at)

  same_block_number : q.number ≡ p.number
  same_block_number = ap (λ x. x.1) same_pair

  of_placed : tree_of S q.file ≡ Some p.in_file.tree_number
  of_placed = ap (λ x. tree_of S x.0) same_pair ∙ p.in_file.of_file

  placed_tree : q.in_file.tree ≡ p.in_file.tree
  placed_tree = same_tree S q.file q.number p.in_file.tree_number p.in_file.tree p.in_file.state of_placed p.in_file.is_tree q.in_file

  placed_state : q.in_file.state ≡ p.in_file.state
  placed_state = same_state S q.file q.number p.in_file.tree_number p.in_file.tree p.in_file.state of_placed p.in_file.is_tree q.in_file

  refused_there : (bytes : List ℕ) (r : BlockRefusal)
      → RefusesBlock q.in_file.tree.length (look q.in_file.state.known) q.number bytes r
      → RefusesBlock p.in_file.tree.length (look p.in_file.state.known) p.number bytes r
  refused_there bytes r refused =
      subst (λ b. RefusesBlock p.in_file.tree.length (look p.in_file.state.known) b bytes r)
      same_block_number
      (subst₂ (λ (tr : TreeRoot) (st : TreeState). RefusesBlock tr.length (look st.known) q.number
      bytes r) placed_tree placed_state refused)

  pub run_there : (size k : ℕ) → IsBlockRun p.in_file.tree.length p.number size k → IsBlockRun q.in_file.tree.length q.number size k
  run_there size k run = subst₂ (λ (tr : TreeRoot) b. IsBlockRun tr.length b size k) (sym placed_tree) (sym same_block_number) run

module _ (S : SessionSeen) (closed_trees : HasClosedTrees S) (index begin : ℕ) (bytes : List ℕ) (p : IsPlaced S index begin) (f : List ℕ)
    (fits : Fits f p.in_file.tree.length p.in_file.tree.root) (is_block : bytes ≡ block f p.number)
    (known : IsKnown (look p.in_file.state.known) 0 p.number) where
  refused_elsewhere : (r : BlockRefusal) → (q : IsPlaced S index begin)
      → RefusesBlock q.in_file.tree.length (look q.in_file.state.known) q.number bytes r
      → Collision (whole f) (look p.in_file.state.known)
  refused_elsewhere r q refused = never-refused S closed_trees p.file p.number bytes p.in_file f fits is_block known r
      (refused_there S index begin p q bytes r refused)

  block_refused : (r : BlockRefusal) → IsBlockRefused S index begin bytes r → Collision (whole f) (look p.in_file.state.known)
  block_refused BadPlace h = absurd (none-some (p.file, p.number) (sym h ∙ p.at))
  block_refused BadSize (q, h) = refused_elsewhere BadSize q h
  block_refused Unproved (q, h) = refused_elsewhere Unproved q h
  block_refused BadBlock (q, h) = refused_elsewhere BadBlock q h

pub block-taken : (S : SessionSeen) → HasClosedTrees S → (index begin : ℕ) (bytes : List ℕ) (r : Result (ℕ × ℕ) BlockRefusal) (S' : SessionSeen)
    → IfOk r (λ p. IsVerified S index begin bytes p.0 p.1 S') → IfErr r (λ x. IsBlockRefused S index begin bytes x × (S' ≡ S))
    → VerifiesTrueBlock S index begin bytes r
block-taken S closed_trees index begin bytes (Ok (file, b)) S' was refused =
    λ p f fits is_block known. inl (ap Ok (same_Some (file, b) (p.file, p.number) (sym was.0 ∙ p.at)))
block-taken S closed_trees index begin bytes (Err x) S' was refused =
    λ p f fits is_block known. inr (block_refused S closed_trees index begin bytes p f fits is_block known x refused.0)

abbrev one_cut : ℕ → List ℕ → Cut
one_cut b bytes = record { number = b; bytes = bytes }

pub block-keeps : (S : SessionSeen) (index begin : ℕ) (bytes : List ℕ) (r : Result (ℕ × ℕ) BlockRefusal) (S' : SessionSeen)
    → IfOk r (λ p. IsVerified S index begin bytes p.0 p.1 S') → IfErr r (λ x. IsBlockRefused S index begin bytes x × (S' ≡ S))
    → KeepsKnown S S'
block-keeps S index begin bytes (Ok (file, b)) S' was refused = later-keeps S S' (step-known file S (one_cut b bytes) None S' was.1)
block-keeps S index begin bytes (Err x) S' was refused = keeps-same S S' refused.1

pub block-is : (S : SessionSeen) → HasClosedTrees S → (index begin : ℕ) (bytes : List ℕ) (r : Result (ℕ × ℕ) BlockRefusal) (S' : SessionSeen)
    → IfOk r (λ p. IsVerified S index begin bytes p.0 p.1 S') → IfOk r (λ p. IsBlock S index begin bytes p.0 p.1)
block-is S closed_trees index begin bytes (Ok (file, b)) S' (at, h) = (
  at,
  says-block S closed_trees file (one_cut b bytes) h.in_file.tree_number h.in_file.tree h.in_file.state h.in_file.of_file h.in_file.is_tree
      (h.in_file.inside, h.leaf_known),
)
block-is S closed_trees index begin bytes (Err x) S' was = tt

-- ---- several blocks

no-run : (S : SessionSeen) (index begin : ℕ) (bytes : List ℕ) (r : BlockRefusal) → AreRefused S index begin bytes r → IsNoRun S index begin bytes
no-run S index begin bytes BadPlace h = λ p k run. none-some (p.file, p.number) (sym h ∙ p.at)
no-run S index begin bytes BadSize (q, none) = λ p k run. none k (run_there S index begin p q (length bytes) k run)
no-run S index begin bytes Unproved h = absurd h
no-run S index begin bytes BadBlock h = absurd h

pub blocks-are : (S : SessionSeen) → HasClosedTrees S → (index begin : ℕ) (bytes : List ℕ) (r : Result BlocksSeen BlockRefusal) (S' : SessionSeen)
    → IfOk r (λ v. AreTaken S index begin bytes v S') → IfOk r (AreBlocks S index begin bytes)
blocks-are S closed_trees index begin bytes (Ok v) S' h = taken-blocks S closed_trees index begin bytes v S' h
blocks-are S closed_trees index begin bytes (Err x) S' h = tt

pub blocks-true : (S : SessionSeen) → HasClosedTrees S → (index begin : ℕ) (bytes : List ℕ) (r : Result BlocksSeen BlockRefusal) (S' : SessionSeen)
    → IfOk r (λ v. AreTaken S index begin bytes v S') → IfOk r (VerifiesTrueBlocks S bytes)
blocks-true S closed_trees index begin bytes (Ok v) S' h = taken-true S closed_trees index begin bytes v S' h
blocks-true S closed_trees index begin bytes (Err x) S' h = tt

pub blocks-keep : (S : SessionSeen) (index begin : ℕ) (bytes : List ℕ) (r : Result BlocksSeen BlockRefusal) (S' : SessionSeen)
    → IfOk r (λ v. AreTaken S index begin bytes v S') → IfErr r (λ x. AreRefused S index begin bytes x × (S' ≡ S)) → KeepsKnown S S'
blocks-keep S index begin bytes (Ok v) S' h refused = later-keeps S S' (chain-known v.file S _ v.refusals S' h.each)
blocks-keep S index begin bytes (Err x) S' h refused = keeps-same S S' refused.1

-- ---- steps

module _ (S : SessionSeen) (closed_trees : HasClosedTrees S) (distinct : HasDistinctRoots S) (m : Message) (v : Verdict) (S' : SessionSeen)
    (step : Step S m v S') where
  step-as : (p : Message) (w : Verdict) → m ≡ p → v ≡ w → Step S p w S'
  step-as p w is said = subst₂ (λ (q : Message) (u : Verdict). Step S q u S') is said step

  -- what became of hashes
  hashes-as : (ask : Ask) (given : Bor (List Hash)) (r : Result ℕ HashRefusal) → m ≡ message.Hashes ask given → v ≡ verdict_of r
      → IfOk r (λ c. IsStored S ask given.now c S') × IfErr r (λ x. IsHashRefused S ask given.now x × (S' ≡ S))
  hashes-as ask given (Ok c) is said = (step-as (message.Hashes ask given) (verdict.Stored c) is said, tt)
  hashes-as ask given (Err x) is said = (tt, step-as (message.Hashes ask given) (verdict.HashRefused x) is said)

  pub safe_step : IsSafeStep S m v S'
  safe_step = record {
    allowed = step;
    torrent_stays = step-torrent S m v S' step;
    verified_is_the_block = verdict-true S m v S' closed_trees step;
    known_stays = step-keeps S m v S' step;
    true_hashes_are_stored = λ ask given r is said.
        let (stored, refused) = hashes-as ask given r is said in hashes-stored S closed_trees distinct ask given.now r S' stored refused;
    answers_are_stored = λ ask given r is said.
        let (stored, refused) = hashes-as ask given r is said in answers-stored S closed_trees distinct ask given.now r S' stored refused;
    true_blocks_are_verified = λ index begin sent entries is said.
        taken-true S closed_trees index begin sent.now entries S' (step-as (message.Piece index begin sent) (verdict.Blocks entries) is said);
    blocks_are_not_refused = λ index begin sent r is said.
        no-run S index begin sent.now r (step-as (message.Piece index begin sent) (verdict.BlockRefused r) is said).0;
    one_gap_closes = λ ask given r is said.
        let (stored, refused) = hashes-as ask given r is said in wanted-closes S closed_trees distinct ask given.now r S' stored refused;
  }
