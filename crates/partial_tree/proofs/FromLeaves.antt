-- Leaves, and what follows from all of them.
use Rattle.std.proofs.Common.{◌≡◌, ◌≢◌, ◌⊎◌, ℕ, zero, suc, ◌+◌, ◌-◌, ◌*◌, ◌/◌, ◌%◌, ◌^◌, ◌<◌, ◌≤◌, List, [], ◌∷◌, ◌++◌, length, get_or, Some, None, inl, inr}
use Rattle.std.proofs.Common.{refl, sym, ap, ap₂, ◌∙◌, subst, arith, pow_pos, div-one, div-add-mod'}
use Rattle.std.specs.FinMap.{insert, len, empty, len-empty, get-empty}
use Rattle.std.specs.Prelude.{slice_get}
use Rattle.std.specs.Option.{unwrap_or}
use Rattle.std.specs.List.{range_with_len}
use Rattle.std.proofs.lemmas.Bool.{cases_lt, cases_eq, and_from, eq-eqb, le-leb, lt-ltb, cond-true}
use Rattle.std.proofs.lemmas.Option.{slice_get_within, slice_get-get_or}
use Rattle.std.proofs.lemmas.List.{length-map, get_or_append_left, get_or-append_right, get_or-replicate}
use Rattle.std.proofs.lemmas.List.FromFn.{get_or-map-range_with_len, length-range_with_len}
use Rattle.std.proofs.lemmas.List.Elements.{All-push}
use Rattle.std.proofs.lemmas.Nat.{mod_below}
use Rattle.chains.proofs.Cases.{some_or_none}
use Rattle.hashtree.specs.Tree.{pad_leaf, block_count, zero_hash}
use Rattle.hashtree.proofs.Zeros.{zero_hash-zero}
use Rattle.hashtree.proofs.Heights.{height_enough}
use Rattle.hashtree.proofs.Pairs.{two-pow}
use Rattle.node_maps.specs.Digest.{Hash, IsHash, join}
use Rattle.node_maps.specs.Known.{Known, look, place_cmp}
use Rattle.node_maps.specs.Places.{PartialTree, IsTreePlace, IsKnown, tree_height}
use Rattle.node_maps.specs.Runs.{AreKnown}
use Rattle.node_maps.proofs.Known.{look-insert_same, look-insert_other}
use Rattle.node_maps.proofs.Runs.{hashes-one, hashes-alike}
use Rattle.partial_tree.specs.TreeRoot.{TreeRoot}
use Rattle.partial_tree.specs.Claims.{AreHashes, claims, given, base_hash, uncle_hash, cover, join_both}
use Rattle.partial_tree.specs.Fill.{fill_ask, fill_hashes, fill_claims, pad_from}
use Rattle.partial_tree.specs.Grown.{AddsRow, IsGrowing, first_leaves, parents_of}
use Rattle.partial_tree.proofs.ClaimValues.{either, first_of_two, second_of_two, base-read, uncle-read, claims-given}
use Rattle.partial_tree.proofs.Layers.{layer-leads}
use Rattle.partial_tree.proofs.WholeLayers.{full}

pub zero-more : (j : ℕ) → 0 + j ≡ j
zero-more j = omega arith

-- ---- the leaves

pub length-leaves : (K : Known) (count : ℕ) → length (first_leaves K count) ≡ count
length-leaves K count = length-map (range_with_len 0 count) (λ j. unwrap_or (look K 0 (0 + j)) pad_leaf) ∙ length-range_with_len 0 count

pub leaf-at : (K : Known) (count i : ℕ) → i < count → get_or (first_leaves K count) i [] ≡ unwrap_or (look K 0 i) pad_leaf
leaf-at K count i low = get_or-map-range_with_len (λ j. unwrap_or (look K 0 (0 + j)) pad_leaf) 0 count i i [] low (omega arith)
    ∙ ap (λ k. unwrap_or (look K 0 k) pad_leaf) (zero-more i)

-- nothing was given yet
pub growing-none : (K : Known) → K ≡ empty → IsGrowing 0 K
growing-none K none = record {
  leaves_known = λ j low. absurd (omega arith);
  hashes = λ k d in'. absurd (omega (arith, in', length-leaves K 0));
  none_else = λ l i other. ap (λ m. look m l i) none ∙ get-empty place_cmp (l, i);
  counted = ap len none ∙ len-empty place_cmp Hash;
}

pub leaves-more : (K K' : Known) (n : ℕ) (h : Hash) → K' ≡ insert K (0, n) h → first_leaves K' (n + 1) ≡ first_leaves K n ++ h ∷ []
leaves-more K K' n h put =
    hashes-one (look K' 0) 0 n
    ∙ ap (λ xs. xs ++ unwrap_or (look K' 0 (0 + n)) pad_leaf ∷ [])
    (hashes-alike (look K' 0) (look K 0) 0 0 n (record {
      at = λ j low. ap (λ m. look m 0 (0 + j)) put
          ∙ look-insert_other K 0 n h 0 (0 + j) (inr (λ e. omega arith));
    }))
    ∙ ap (λ o. first_leaves K n ++ unwrap_or o pad_leaf ∷ []) (ap (look K' 0) (zero-more n) ∙ ap (λ m. look m 0 n) put ∙ look-insert_same K 0 n h)

-- one leaf more
pub growing-more : (K K' : Known) (n : ℕ) (h : Hash) → IsGrowing n K → IsHash h → K' ≡ insert K (0, n) h → len K' ≡ len K + 1 → IsGrowing (n + 1) K'
growing-more K K' n h is hash put more = record {
  hashes = subst AreHashes (sym (leaves-more K K' n h put)) (All-push IsHash (first_leaves K n) h is.hashes hash);
  leaves_known = λ j low. known j low (cases_eq j n);
  none_else = λ l i other. ap (λ m. look m l i) put ∙ look-insert_other K 0 n h l i (apart l i other) ∙ is.none_else l i (wider l i other);
  counted = omega (arith, more, is.counted);
}
  where
    known : (j : ℕ) → j < n + 1 → (j ≡ n) ⊎ (j ≢ n) → IsKnown (look K') 0 (0 + j)
    known j low (inl same) = (h, ap (look K' 0) (zero-more j ∙ same) ∙ ap (λ m. look m 0 n) put ∙ look-insert_same K 0 n h)
    known j low (inr other) =
        let before = is.leaves_known j (omega arith) in
        (before.0, ap (λ m. look m 0 (0 + j)) put ∙ look-insert_other K 0 n h 0 (0 + j) (inr (λ e. other (sym (zero-more j) ∙ e))) ∙ before.1)

    apart : (l i : ℕ) → (l ≢ 0) ⊎ (n + 1 ≤ i) → (l ≢ 0) ⊎ (i ≢ n)
    apart l i (inl other) = inl other
    apart l i (inr past) = inr (λ e. omega arith)

    wider : (l i : ℕ) → (l ≢ 0) ⊎ (n + 1 ≤ i) → (l ≢ 0) ⊎ (n ≤ i)
    wider l i (inl other) = inl other
    wider l i (inr past) = inr (omega arith)

-- ---- what follows from all leaves

-- what is known is what follows from the leaves, up to a layer
pub record IsUpTo (n : ℕ) (leaves : List Hash) (layer : ℕ) (K : Known) : Type 0 where
  pub same : (l i : ℕ) → l ≤ layer → look K l i ≡ fill_claims n 0 leaves l i
  pub none_above : (l i : ℕ) → layer < l → look K l i ≡ None
  pub counted : len K + 2 ^ (tree_height n - layer) ≡ 2 ^ suc (tree_height n)

module _ (n : ℕ) (leaves : List Hash) (right_count : length leaves ≡ block_count n) where
  abbrev t : TreeRoot
  t = record { root = []; length = n }

  abbrev nothing : PartialTree
  nothing l i = None

  inside : 0 ≤ tree_height n
  inside = omega arith

  pub all_given : length leaves ≡ pad_from n 0
  all_given = let none_more : block_count n + 0 ≡ block_count n = omega arith in right_count ∙ sym none_more ∙ sym (div-one (block_count n + 0))

  wide : length (fill_hashes n 0 leaves) ≡ 2 ^ tree_height n
  wide =
      let all : tree_height n - 0 ≡ tree_height n = omega arith in
      full t nothing 0 leaves inside all_given ∙ ap (λ k. 2 ^ k) all

  -- no hash above the leaves is given
  not-given : (k i : ℕ) → given (fill_ask n 0) (fill_hashes n 0 leaves) (suc k) i ≡ None
  not-given k i = elim (some_or_none (given (fill_ask n 0) (fill_hashes n 0 leaves) (suc k) i)) [
    | inr none ↦ none
    | inl (v, e) ↦ elim (either (base_hash (fill_ask n 0) (fill_hashes n 0 leaves) (suc k) i) (uncle_hash (fill_ask n 0) (fill_hashes n 0 leaves) (suc k) i) v
        e) [
          | inl b ↦
              let (at, low, high, got) = base-read (fill_ask n 0) (fill_hashes n 0 leaves) (suc k) i v b in
              absurd (omega (arith, at))
          | inr (none, u) ↦
              let (from, at, got) = uncle-read (fill_ask n 0) (fill_hashes n 0 leaves) (suc k) i v u in
              let within' : (fill_ask n 0).length + (suc k - cover (fill_ask n 0)) < length (fill_hashes n 0 leaves) = slice_get_within (fill_hashes n 0 leaves)
              ((fill_ask n 0).length + (suc k - cover (fill_ask n 0))) v got in
              let all : length (fill_hashes n 0 leaves) ≡ 2 ^ (tree_height n - 0) = full t nothing 0 leaves inside all_given in
              absurd (omega arith)
        ]
  ]

  -- each node above the leaves is the join of its children
  pub joined-above : (k i : ℕ) → fill_claims n 0 leaves (suc k) i ≡ join_both (fill_claims n 0 leaves k (2 * i)) (fill_claims n 0 leaves k (2 * i + 1))
  unfolding claims
  joined-above k i = second_of_two (given (fill_ask n 0) (fill_hashes n 0 leaves) (suc k) i) _ (not-given k i)

  -- nothing outside the tree follows
  pub claims-inside : (k i : ℕ) (v : Hash) → fill_claims n 0 leaves k i ≡ Some v → IsTreePlace (tree_height n) k i
  claims-inside k i v e =
      let under = (layer-leads t nothing 0 (record { ref_ptr = (0, 0); now = leaves }) inside all_given).under_top k i v e in
      let parts : i / 2 ^ (tree_height n - k) * 2 ^ (tree_height n - k) + i % 2 ^ (tree_height n - k) ≡ i = div-add-mod' i (2 ^ (tree_height n - k)) in
      let first : i / 2 ^ (tree_height n - k) * 2 ^ (tree_height n - k) ≡ 0 * 2 ^ (tree_height n - k) = ap (λ j. j * 2 ^ (tree_height n - k)) under.1 in
      let low : i % 2 ^ (tree_height n - k) < 2 ^ (tree_height n - k) = mod_below i (2 ^ (tree_height n - k)) (pow_pos (tree_height n - k)) in
      (under.0, omega arith)

  pub claims-outside : (k i : ℕ) → (tree_height n < k) ⊎ (2 ^ (tree_height n - k) ≤ i) → fill_claims n 0 leaves k i ≡ None
  claims-outside k i past = elim (some_or_none (fill_claims n 0 leaves k i)) [
    | inr none ↦ none
    | inl (v, e) ↦ let at = claims-inside k i v e in elim past [
      | inl high ↦ absurd (omega (arith, at.0))
      | inr far ↦ absurd (omega (arith, at.1))
    ]
  ]

  -- the leaves and the pads after them
  row-claimed : (i : ℕ) → i < 2 ^ tree_height n → fill_claims n 0 leaves 0 i ≡ Some (get_or (fill_hashes n 0 leaves) i [])
  row-claimed i low =
      let all : tree_height n - 0 ≡ tree_height n = omega arith in
      let power : 2 ^ (tree_height n - 0) ≡ 2 ^ tree_height n = ap (λ k. 2 ^ k) all in
      let same : i - 0 ≡ i = omega arith in
      let there : i < length (fill_hashes n 0 leaves) = omega (arith, wide) in
      claims-given (fill_ask n 0) (fill_hashes n 0 leaves) 0 i _
      (first_of_two _ _ _ (cond-true _ _ _ (and_from _ _ (eq-eqb 0 0 refl)
      (and_from _ _ (le-leb 0 i (omega arith)) (lt-ltb i (0 + 2 ^ (tree_height n - 0)) (omega arith))))
      ∙ ap (slice_get (fill_hashes n 0 leaves)) same ∙ slice_get-get_or (fill_hashes n 0 leaves) i [] there))

  fits : length leaves ≤ 2 ^ tree_height n
  fits = let enough : block_count n ≤ 2 ^ tree_height n = height_enough (block_count n) in omega (arith, right_count)

  pub leaf-claimed : (i : ℕ) → i < length leaves → fill_claims n 0 leaves 0 i ≡ Some (get_or leaves i [])
  leaf-claimed i low =
      let le : length leaves ≤ 2 ^ tree_height n = fits in
      row-claimed i (omega arith) ∙ ap Some (get_or_append_left leaves _ [] i low)

  pub pad-claimed : (i : ℕ) → length leaves ≤ i → i < 2 ^ tree_height n → fill_claims n 0 leaves 0 i ≡ Some pad_leaf
  pad-claimed i past low =
      let all : tree_height n - 0 ≡ tree_height n = omega arith in
      let power : 2 ^ (tree_height n - 0) ≡ 2 ^ tree_height n = ap (λ k. 2 ^ k) all in
      row-claimed i low
      ∙ ap Some (get_or-append_right leaves _ (length leaves) i [] refl past
      ∙ get_or-replicate (2 ^ (tree_height n - 0) - length leaves) (i - length leaves) (zero_hash 0) [] (omega arith) ∙ zero_hash-zero)

  -- each place of the tree follows
  pub all-claimed : (k i : ℕ) → IsTreePlace (tree_height n) k i → IsKnown (fill_claims n 0 leaves) k i
  all-claimed zero i at =
      let all : tree_height n - 0 ≡ tree_height n = omega arith in
      (get_or (fill_hashes n 0 leaves) i [], row-claimed i (subst (λ k. i < 2 ^ k) all at.1))
  all-claimed (suc k) i at =
      let step : tree_height n - k ≡ suc (tree_height n - suc k) = omega (arith, at.0) in
      let twice : 2 ^ (tree_height n - k) ≡ 2 ^ (tree_height n - suc k) + 2 ^ (tree_height n - suc k) = ap (λ j. 2 ^ j) step
      ∙ two-pow (tree_height n - suc k) in
      let left = all-claimed k (2 * i) (omega (arith, at.0), omega (arith, at.1)) in
      let right = all-claimed k (2 * i + 1) (omega (arith, at.0), omega (arith, at.1)) in
      (join left.0 right.0, joined-above k i ∙ ap₂ join_both left.1 right.1)

  -- one layer more
  pub layer-more : (layer : ℕ) (K K' : Known) → layer < tree_height n → IsUpTo n leaves layer K
      → AddsRow K (suc layer) 0 (2 ^ (tree_height n - suc layer)) (parents_of K layer) K' → IsUpTo n leaves (suc layer) K'
  layer-more layer K K' low is adds = record {
    same = λ l i le. by_layer l i le (cases_eq l (suc layer));
    none_above = λ l i high. adds.rest l i (inl (λ e. omega arith)) ∙ is.none_above l i (omega arith);
    counted =
        let step : tree_height n - layer ≡ suc (tree_height n - suc layer) = omega arith in
        let twice : 2 ^ (tree_height n - layer) ≡ 2 ^ (tree_height n - suc layer) + 2 ^ (tree_height n - suc layer) = ap (λ j. 2 ^ j) step
        ∙ two-pow (tree_height n - suc layer) in
        omega (arith, adds.gained, is.counted, twice);
  }
    where
      by_layer : (l i : ℕ) → l ≤ suc layer → (l ≡ suc layer) ⊎ (l ≢ suc layer) → look K' l i ≡ fill_claims n 0 leaves l i
      by_layer l i le (inr other) = adds.rest l i (inl other) ∙ is.same l i (omega arith)
      by_layer l i le (inl here) = ap (λ k. look K' k i) here ∙ on_layer i (cases_lt i (2 ^ (tree_height n - suc layer)))
          ∙ ap (λ k. fill_claims n 0 leaves k i) (sym here)
        where
          on_layer : (i : ℕ) → (i < 2 ^ (tree_height n - suc layer)) ⊎ (2 ^ (tree_height n - suc layer) ≤ i)
              → look K' (suc layer) i ≡ fill_claims n 0 leaves (suc layer) i
          on_layer i (inl in') = adds.row i (omega arith) in' ∙ ap₂ join_both (is.same layer (2 * i) (omega arith)) (is.same layer (2 * i + 1) (omega arith))
              ∙ sym (joined-above layer i)
          on_layer i (inr past) = adds.rest (suc layer) i (inr (inr past)) ∙ is.none_above (suc layer) i (omega arith)
              ∙ sym (claims-outside (suc layer) i (inr past))

  pub children-known : (layer : ℕ) (K : Known) → layer < tree_height n → IsUpTo n leaves layer K
      → AreKnown (look K layer) 0 (2 * 2 ^ (tree_height n - suc layer))
  children-known layer K low is j in' =
      let step : tree_height n - layer ≡ suc (tree_height n - suc layer) = omega arith in
      let twice : 2 ^ (tree_height n - layer) ≡ 2 ^ (tree_height n - suc layer) + 2 ^ (tree_height n - suc layer) = ap (λ j. 2 ^ j) step
      ∙ two-pow (tree_height n - suc layer) in
      let here = all-claimed layer (0 + j) (omega arith, omega (arith, in')) in
      (here.0, is.same layer (0 + j) (omega arith) ∙ here.1)

  -- the root is reached
  pub all-same : (K : Known) → IsUpTo n leaves (tree_height n) K → (l i : ℕ) → look K l i ≡ fill_claims n 0 leaves l i
  all-same K is l i = elim (cases_lt (tree_height n) l) [
    | inl high ↦ is.none_above l i high ∙ sym (claims-outside l i (inl high))
    | inr low ↦ is.same l i low
  ]
