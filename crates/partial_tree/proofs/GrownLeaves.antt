-- The leaves of a node map, as a tree that grows keeps them.
use Rattle.std.proofs.Common.{◌≡◌, ◌⊎◌, ℕ, suc, ◌+◌, ◌-◌, ◌*◌, ◌%◌, ◌^◌, ◌<◌, ◌≤◌, length, Some, inl, inr}
use Rattle.std.proofs.Common.{sym, ap, ◌∙◌, subst, subst₂, arith, mod-eq_of_lt}
use Rattle.std.specs.FinMap.{len}
use Rattle.std.specs.Option.{unwrap_or}
use Rattle.std.proofs.lemmas.Bool.{cases_lt}
use Rattle.hashtree.specs.Tree.{pad_leaf, block_count}
use Rattle.hashtree.proofs.Pairs.{two-pow}
use Rattle.node_maps.specs.Known.{Known, look}
use Rattle.node_maps.specs.Places.{tree_height}
use Rattle.node_maps.proofs.Runs.{hashes-alike}
use Rattle.partial_tree.specs.Claims.{AreHashes}
use Rattle.partial_tree.specs.Fill.{fill_claims}
use Rattle.partial_tree.specs.Grown.{AddsRow, GrownTree, IsGrowing, FollowsFromLeaves, grown, first_leaves, parents_of}
use Rattle.partial_tree.proofs.Ranges.{pow_more}
use Rattle.partial_tree.proofs.FromLeaves.{zero-more, length-leaves, leaf-at, IsUpTo, claims-outside, leaf-claimed, pad-claimed, layer-more, all-same}

-- ---- the leaves of a node map

module _ (n : ℕ) (K : Known) (is : IsGrowing (block_count n) K) where
  right : length (first_leaves K (block_count n)) ≡ block_count n
  right = length-leaves K (block_count n)

  known-leaf : (i : ℕ) → i < block_count n → look K 0 i ≡ fill_claims n 0 (first_leaves K (block_count n)) 0 i
  known-leaf i low =
      let there = is.leaves_known i low in
      let here : look K 0 i ≡ Some there.0 = ap (look K 0) (sym (zero-more i)) ∙ there.1 in
      here
      ∙ ap (λ o. Some (unwrap_or o pad_leaf)) (sym here)
      ∙ ap Some (sym (leaf-at K (block_count n) i low))
      ∙ sym (leaf-claimed n (first_leaves K (block_count n)) right i (omega (arith, right)))

  -- with the pads
  pub pads-same : (K' : Known) → AddsRow K 0 (block_count n) (2 ^ tree_height n) (λ _. Some pad_leaf) K' → IsUpTo n (first_leaves K (block_count n)) 0 K'
  pads-same K' adds = record {
    same = λ l i le. (let first : l ≡ 0 = omega arith in ap (λ k. look K' k i) first ∙ by_place i (cases_lt i (block_count n)) (cases_lt i (2 ^ tree_height n))
        ∙ ap (λ k. fill_claims n 0 (first_leaves K (block_count n)) k i) (sym first));
    none_above = λ l i high. adds.rest l i (inl (λ e. omega arith)) ∙ is.none_else l i (inl (λ e. omega arith));
    counted =
        let all : 2 ^ (tree_height n - 0) ≡ 2 ^ tree_height n = (let none_less : tree_height n - 0 ≡ tree_height n = omega arith in ap (λ k. 2 ^ k) none_less)
        in
        omega (arith, adds.gained, is.counted, two-pow (tree_height n), all);
  }
    where
      by_place : (i : ℕ) → (i < block_count n) ⊎ (block_count n ≤ i) → (i < 2 ^ tree_height n) ⊎ (2 ^ tree_height n ≤ i)
          → look K' 0 i ≡ fill_claims n 0 (first_leaves K (block_count n)) 0 i
      by_place i (inl leaf) q = adds.rest 0 i (inr (inl leaf)) ∙ known-leaf i leaf
      by_place i (inr past) (inl in') = adds.row i past in' ∙ sym (pad-claimed n (first_leaves K (block_count n)) right i (omega (arith, right)) in')
      by_place i (inr past) (inr out) =
          let all : 2 ^ (tree_height n - 0) ≡ 2 ^ tree_height n = (let none_less : tree_height n - 0 ≡ tree_height n = omega arith in ap (λ k. 2 ^ k) none_less)
          in
          adds.rest 0 i (inr (inr out)) ∙ is.none_else 0 i (inr past) ∙ sym (claims-outside n (first_leaves K (block_count n)) right 0 i (inr (omega arith)))

  -- the leaves stay
  pub leaves-same : (K' : Known) → IsUpTo n (first_leaves K (block_count n)) (tree_height n) K'
      → first_leaves K' (block_count n) ≡ first_leaves K (block_count n)
  leaves-same K' done = hashes-alike (look K' 0) (look K 0) 0 0 (block_count n) (record {
    at = λ j low. done.same 0 (0 + j) (omega arith)
        ∙ sym (known-leaf (0 + j) (omega (arith, low)));
  })

  pub grown-whole : (K' : Known) → IsUpTo n (first_leaves K (block_count n)) (tree_height n) K' → FollowsFromLeaves n (block_count n) K'
  grown-whole K' done = record {
    claimed = λ l i. all-same n (first_leaves K (block_count n)) right K' done l i ∙ ap (λ xs. fill_claims n 0 xs l i) (sym (leaves-same K' done));
    hashes = subst AreHashes (sym (leaves-same K' done)) is.hashes;
    leaves_known = λ j low. (let there = is.leaves_known j low in (
      there.0,
      done.same 0 (0 + j) (omega arith) ∙ sym (known-leaf (0 + j) (omega (arith, low)))
          ∙ there.1,
    ));
  }

-- ---- as a tree that grows keeps them

module _ (n count : ℕ) (K : Known) (t : GrownTree) (view_is : grown n (first_leaves K count) ≡ t) (all_there : length t.leaves ≡ block_count t.length)
    (is : IsGrowing count K) where
  all : count ≡ block_count n
  all = sym (length-leaves K count) ∙ subst (λ (x : GrownTree). length x.leaves ≡ block_count x.length) (sym view_is) all_there

  every : IsGrowing (block_count n) K
  every = subst (λ k. IsGrowing k K) all is

  seen : (layer : ℕ) (K' : Known) → IsUpTo n (first_leaves K (block_count n)) layer K' → IsUpTo t.length t.leaves layer K'
  seen layer K' up = subst (λ (x : GrownTree). IsUpTo x.length x.leaves layer K') view_is (subst (λ k. IsUpTo n (first_leaves K k) layer K') (sym all) up)

  unseen : (layer : ℕ) (K' : Known) → IsUpTo t.length t.leaves layer K' → IsUpTo n (first_leaves K (block_count n)) layer K'
  unseen layer K' up = subst (λ k. IsUpTo n (first_leaves K k) layer K') all (subst (λ (x : GrownTree). IsUpTo x.length x.leaves layer K') (sym view_is) up)

  pub padded : (from to : ℕ) (K' : Known) → from ≡ block_count n → to ≡ 2 ^ tree_height n
      → AddsRow K 0 from to (λ _. Some pad_leaf) K' → IsUpTo t.length t.leaves 0 K'
  padded from to K' past whole adds =
      seen 0 K' (pads-same n K every K' (subst₂ (λ j k. AddsRow K 0 j k (λ _. Some pad_leaf) K')
      past whole adds))

  pub ended : (layer : ℕ) (K' K'' : Known) → layer ≡ tree_height n → IsUpTo t.length t.leaves layer K' → K'' ≡ K'
      → (len K'' + 1 ≡ 2 ^ suc (tree_height n)) × FollowsFromLeaves n (block_count n) K'' × (first_leaves K'' (block_count n) ≡ t.leaves)
  ended layer K' K'' top up same =
      subst (λ m. (len m + 1 ≡ 2 ^ suc (tree_height n)) × FollowsFromLeaves n (block_count n) m × (first_leaves m (block_count n) ≡ t.leaves)) (sym same)
      (one (subst (λ k. IsUpTo n (first_leaves K (block_count n)) k K') top (unseen layer K' up)))
    where
      one : IsUpTo n (first_leaves K (block_count n)) (tree_height n) K' → (len K' + 1 ≡ 2 ^ suc (tree_height n)) × FollowsFromLeaves n (block_count n) K'
          × (first_leaves K' (block_count n) ≡ t.leaves)
      one done =
          let none_left : tree_height n - tree_height n ≡ 0 = omega arith in
          let single : 2 ^ (tree_height n - tree_height n) ≡ 2 ^ 0 = ap (λ k. 2 ^ k) none_left in (
            omega (arith, done.counted, single),
            grown-whole n K every K' done,
            leaves-same n K every K' done ∙ ap (first_leaves K) (sym all) ∙ ap (λ (x : GrownTree). x.leaves) view_is,
          )

pub next_layer : (t : GrownTree) (layer next count : ℕ) (K K' : Known) → length t.leaves ≡ block_count t.length → layer < tree_height t.length
    → next ≡ layer + 1 → count ≡ 2 ^ (tree_height t.length - suc layer)
    → IsUpTo t.length t.leaves layer K → AddsRow K next 0 count (parents_of K layer) K' → IsUpTo t.length t.leaves next K'
next_layer t layer next count K K' all low up wide is adds =
    let above : next ≡ suc layer = omega arith in
    subst (λ k. IsUpTo t.length t.leaves k K') (sym above)
    (layer-more t.length t.leaves all layer K K' low is
    (subst (λ k. AddsRow K (suc layer) 0 k (parents_of K layer) K') wide (subst (λ k. AddsRow K k 0 count (parents_of K layer) K') above adds)))

-- a row's length as it is computed
pub shifted : (k : ℕ) → k ≤ 32 → 1 * 2 ^ k % 18446744073709551616 ≡ 2 ^ k
shifted k low =
    let small : 2 ^ k ≤ 2 ^ 32 = pow_more k 32 low in
    let same : 1 * 2 ^ k ≡ 2 ^ k = omega arith in
    mod-eq_of_lt (omega arith) ∙ same

-- and that of the row over a layer
pub layer-wide : (n h l : ℕ) → h ≡ tree_height n → h ≤ 32 → l < h → 1 * 2 ^ (h - l - 1) % 18446744073709551616 ≡ 2 ^ (tree_height n - suc l)
layer-wide n h l tall bound low =
    let exponent : h - l - 1 ≡ tree_height n - suc l = omega (arith, tall) in
    shifted (h - l - 1) (omega (arith, bound)) ∙ ap (λ k. 2 ^ k) exponent

-- pads stand only beside more leaves than one
pub has_pads : (blocks h : ℕ) → 0 < blocks → ((k : ℕ) → blocks ≤ 2 ^ k → h ≤ k) → h ≤ 32
    → blocks < 1 * 2 ^ h % 18446744073709551616 → 1 < blocks
has_pads blocks h some least low pads = elim (cases_lt 1 blocks) [
  | inl more ↦ more
  | inr one ↦
      let flat : h ≤ 0 = least 0 (omega (arith, one)) in
      let none : h ≡ 0 = omega (arith, flat) in
      let single : 2 ^ h ≡ 2 ^ 0 = ap (λ k. 2 ^ k) none in
      absurd (omega (arith, pads, shifted h low, single, some))
]
