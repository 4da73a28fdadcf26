-- The trees of a new session: one for each tree of the torrent, of which the root is known, and with layers more.
use Rattle.std.proofs.Common.{◌≡◌, ℕ, ◌+◌, ◌-◌, ◌*◌, ◌^◌, ◌<◌, ◌≤◌, Bool, true, false, cond, eqb, ◌&&◌, List, [], ◌∷◌, ◌++◌, map, take, length, get_or, Some}
use Rattle.std.proofs.Common.{option_map, inl, inr, refl, sym, ap, ◌∙◌, subst, subst₂, add-one, arith}
use Rattle.std.specs.Prelude.{slice_get}
use Rattle.std.specs.FinMap.{insert, empty, get-empty}
use Rattle.std.specs.FinSet as leaves
use Rattle.std.specs.Ordering.{nat_cmp}
use Rattle.std.proofs.lemmas.Bool.{and_parts, eqb-true, false≢true, cases_lt}
use Rattle.std.proofs.lemmas.Option.{none-some, same_Some, slice_get-get_or, slice_get_within, get_or_from_slice_get, slice_get-map}
use Rattle.std.proofs.lemmas.List.{take_all, length-map, length_push, map-append, get_or_append_left}
use Rattle.std.proofs.Math.Seq.{take-suc, get_or-append_seam}
use Rattle.opening.specs.Description.{Description, TreeEntry}
use Rattle.opening.specs.Seen.{tree_entry}
use Rattle.opening.specs.Sound.{IsSound, IsSoundTree}
use Rattle.opening.specs.declared.torrent.TreeInfo.{TreeInfo}
use Rattle.node_maps.specs.Digest.{Hash, IsHash}
use Rattle.partial_tree.specs.TreeRoot.{TreeRoot}
use Rattle.node_maps.specs.Places.{tree_height}
use Rattle.partial_tree.specs.Closed.{IsClosed}
use Rattle.node_maps.specs.Known.{Known, look, place_cmp}
use Rattle.partial_tree.specs.Kept.{KeptTree, info_of, root_only}
use Rattle.session.specs.Asks.{AskSet}
use Rattle.session.specs.Layouts.{root_of_entry, seen, state_of, AreKept}
use Rattle.session.specs.Fresh.{KnowsRoot, IsFirstKnown, IsFresh, IsPlanted}
use Rattle.node_maps.proofs.Known.{look-insert, look-insert_same}
use Rattle.session.proofs.Sessions.{mapped}

only_root : (h : ℕ) (r : Hash) (l i : ℕ) (v : Hash) → look (insert empty (h, 0) r) l i ≡ Some v → (l ≡ h) × (i ≡ 0) × (v ≡ r)
only_root h r l i v e = by_case (eqb l h && eqb i 0) refl (sym (look-insert empty h 0 r l i) ∙ e)
  where
    by_case : (b : Bool) → (eqb l h && eqb i 0) ≡ b → cond b (Some r) (look empty l i) ≡ Some v → (l ≡ h) × (i ≡ 0) × (v ≡ r)
    by_case true t is = let both = and_parts (eqb l h) (eqb i 0) t in (eqb-true l h both.0, eqb-true i 0 both.1, sym (same_Some r v is))
    by_case false t is = absurd (none-some v (sym (get-empty place_cmp (l, i)) ∙ is))

closed_root : (t : TreeRoot) → 0 < t.length → IsHash t.root → IsClosed t (look (insert empty (tree_height t.length, 0) t.root))
closed_root t some hash = record {
  root_known = look-insert_same empty (tree_height t.length) 0 t.root;
  in_tree = λ l i v e.
      let at = only_root (tree_height t.length) t.root l i v e in
      let none : tree_height t.length - l ≡ 0 = omega (arith, at.0) in
      (omega (arith, at.0), subst (λ k. i < 2 ^ k) (sym none) (omega (arith, at.1)));
  hashes = λ l i v e. let at = only_root (tree_height t.length) t.root l i v e in subst IsHash (sym at.2) hash;
  families = λ l i v e below. let at = only_root (tree_height t.length) t.root l i v e in absurd (omega (arith, at.0, below));
  pads = λ l i v e past.
      let at = only_root (tree_height t.length) t.root l i v e in
      let zero' : i * 2 ^ l ≡ 0 = ap (λ k. k * 2 ^ l) at.1 ∙ omega arith in
      absurd (omega (arith, zero', past, some));
}

-- so of a tree whose look-ups are those of its root alone
pub knows_root : (t : TreeRoot) (K : Known) → K ≡ insert empty (tree_height t.length, 0) t.root → KnowsRoot t (look K)
knows_root t K is = record {
  root = ap (λ m. look m (tree_height t.length) 0) is ∙ look-insert_same empty (tree_height t.length) 0 t.root;
  no_more = λ l i v e.
      let at = only_root (tree_height t.length) t.root l i v (ap (λ m. look m l i) (sym is) ∙ e) in
      (at.0, at.1);
}

pub planted_root : (p : ℕ) (e : TreeEntry) (a : KeptTree) → IsSoundTree p e → IsHash e.root
    → a ≡ root_only e.root e.length → IsPlanted p false e a
planted_root p e a sound hash is = subst (IsPlanted p false e) (sym is) (record {
  root_is = refl;
  length_is = refl;
  good = record {
    closed = closed_root (root_of_entry e) sound.some hash;
    marks = λ i x. absurd (false≢true (sym (leaves.contains-empty nat_cmp i) ∙ x));
  };
  known = record {
    root_alone = λ _. knows_root (root_of_entry e) _ refl;
    layers = λ x. absurd (false≢true x);
  };
  marked = refl;
})

-- a tree that has no layer of its own, or a session that begins without layers
pub planted_as_root : (p : ℕ) (w : Bool) (e : TreeEntry) (a : KeptTree) → ((w ≡ true) → p < e.length → ⊥) → IsPlanted p false e a → IsPlanted p w e a
planted_as_root p w e a none planted = record {
  root_is = planted.root_is;
  length_is = planted.length_is;
  good = planted.good;
  known = record {
    root_alone = λ _. planted.known.root_alone (inl refl);
    layers = λ on longer. absurd (none on longer);
  };
  marked = planted.marked;
}

nothing : TreeEntry
nothing = record { root = []; length = 0; layer = [] }

-- each tree so far is planted for its entry
abbrev pub ArePlanted : ℕ → Bool → List TreeEntry → List KeptTree → Type 0
ArePlanted p w entries ts = (k : ℕ) (e : TreeEntry) (a : KeptTree) → k < length ts → IsPlanted p w (get_or entries k e) (get_or ts k a)

pub no_trees : (p : ℕ) (w : Bool) (entries : List TreeEntry) (ts : List KeptTree) → ts ≡ [] → ArePlanted p w entries ts
no_trees p w entries ts none = λ k e a inside. absurd (omega (arith, ap length none, inside))

pub planted_one_more : (p : ℕ) (w : Bool) (infos : List TreeInfo) (ts : List KeptTree) (i : ℕ) (x : TreeInfo) (b : KeptTree) → i < length infos → length ts ≡ i
    → IsPlanted p w (tree_entry (get_or infos i x)) b → ArePlanted p w (map tree_entry infos) ts → ArePlanted p w (map tree_entry infos) (ts ++ b ∷ [])
planted_one_more p w infos ts i x b low count here before = λ k e a inside. elim (cases_lt k (length ts)) [
  | inl earlier ↦ subst (IsPlanted p w (get_or (map tree_entry infos) k e)) (sym (get_or_append_left ts (b ∷ []) a k earlier)) (before k e a earlier)
  | inr last ↦
      let same : k ≡ length ts = omega (arith, length_push ts b) in
      let read : get_or (map tree_entry infos) i e ≡ tree_entry (get_or infos i x) =
      get_or_from_slice_get (map tree_entry infos) i (tree_entry (get_or infos i x)) e (slice_get-map tree_entry infos i
      ∙ ap (option_map tree_entry) (slice_get-get_or infos i x low)) in
      subst (IsPlanted p w (get_or (map tree_entry infos) k e)) (sym (ap (λ j. get_or (ts ++ b ∷ []) j a) same ∙ get_or-append_seam ts b [] a))
      (subst (λ y. IsPlanted p w y b) (sym (ap (λ j. get_or (map tree_entry infos) j e) (same ∙ count) ∙ read)) here)
]

module _ (d : Description) (sound : IsSound d) (infos : List TreeInfo) (are : map tree_entry infos ≡ d.trees) where
  entry : (i : ℕ) (x : TreeInfo) → i < length infos → IsSoundTree d.piece_length (tree_entry (get_or infos i x))
  entry i x inside = sound.trees i (tree_entry (get_or infos i x))
      (ap (λ l. slice_get l i) (sym are) ∙ slice_get-map tree_entry infos i ∙ ap (option_map tree_entry) (slice_get-get_or infos i x inside))

  pub sound_at : (p : ℕ) → p ≡ d.piece_length → (i : ℕ) (x : TreeInfo) → i < length infos → IsSoundTree p (tree_entry (get_or infos i x))
  sound_at p same i x inside = subst (λ n. IsSoundTree n (tree_entry (get_or infos i x))) (sym same) (entry i x inside)

  pub same_more : (i : ℕ) (x : TreeInfo) (ts : List KeptTree) (b : KeptTree) → i < length infos → b.root ≡ (get_or infos i x).root
      → b.length ≡ (get_or infos i x).length
      → map info_of ts ≡ take i (map root_of_entry (map tree_entry infos))
      → map info_of (ts ++ b ∷ []) ≡ take (i + 1) (map root_of_entry (map tree_entry infos))
  same_more i x ts b inside r l before =
      let roots : List TreeRoot = map root_of_entry (map tree_entry infos) in
      let at : slice_get roots i ≡ Some (root_of_entry (tree_entry (get_or infos i x))) =
      slice_get-map root_of_entry (map tree_entry infos) i
      ∙ ap (option_map root_of_entry) (slice_get-map tree_entry infos i ∙ ap (option_map tree_entry) (slice_get-get_or infos i x inside)) in
      let info : Hash → ℕ → TreeRoot = λ u n. record { root = u; length = n } in
      let is : info_of b ≡ root_of_entry (tree_entry (get_or infos i x)) = ap (λ u. info u b.length) r ∙ ap (λ n. info (get_or infos i x).root n) l in
      let read : get_or roots i (info_of b) ≡ info_of b = get_or_from_slice_get roots i (root_of_entry (tree_entry (get_or infos i x))) (info_of b) at
      ∙ sym is in
      map-append info_of ts (b ∷ []) ∙ ap (λ xs. xs ++ info_of b ∷ []) before ∙ ap (λ y. take i roots ++ y ∷ []) (sym read)
      ∙ sym (take-suc roots i (info_of b) (slice_get_within roots i (root_of_entry (tree_entry (get_or infos i x))) at))
      ∙ ap (λ j. take j roots) (sym (add-one i))

  -- when each tree of the torrent has come
  pub kept_all : (w : Bool) (i : ℕ) (ts : List KeptTree) → length infos ≤ i → map info_of ts ≡ take i (map root_of_entry (map tree_entry infos))
      → ArePlanted d.piece_length w d.trees ts → AreKept d ts
  kept_all w i ts past same planted = record {
    same = same ∙ take_all i (map root_of_entry (map tree_entry infos)) (omega (
      arith,
      length-map (map tree_entry infos) root_of_entry,
      length-map infos tree_entry,
      past,
    )) ∙ ap (map root_of_entry) are;
    good = λ k x inside. (planted k nothing x inside).good;
  }

  pub fresh : (w : Bool) (ts : List KeptTree) (o : AskSet) → o ≡ leaves.empty → AreKept d ts → ArePlanted d.piece_length w d.trees ts
      → IsFresh d w (seen d o ts)
  fresh w ts o none kept planted = record {
    torrent = refl;
    count = length-map ts state_of ∙ sym (length-map ts info_of) ∙ ap length kept.same ∙ length-map d.trees root_of_entry;
    known = λ n e s at_entry at_state.
        let x = mapped state_of (slice_get ts n) s (sym (slice_get-map state_of ts n) ∙ at_state) in
        let p : IsPlanted d.piece_length w (get_or d.trees n e) (get_or ts n x.0) = planted n e x.0 (slice_get_within ts n x.0 x.1) in
        let known : IsFirstKnown d.piece_length w e (look x.0.state.known) =
        subst₂ (λ y a. IsFirstKnown d.piece_length w y (look a.state.known)) (get_or_from_slice_get d.trees n e e at_entry)
        (get_or_from_slice_get ts n x.0 x.0 x.1) p.known in
        subst (λ st. IsFirstKnown d.piece_length w e (look st.known)) x.2 known;
    marked = λ n s at_state.
        let x = mapped state_of (slice_get ts n) s (sym (slice_get-map state_of ts n) ∙ at_state) in
        let inside : n < length ts = slice_get_within ts n x.0 x.1 in
        let p = planted n nothing x.0 inside in
        subst (λ st. st.marked ≡ leaves.empty) x.2 (subst (λ t. t.state.marked ≡ leaves.empty) (get_or_from_slice_get ts n x.0 x.0 x.1) p.marked);
    asks = none;
  }
