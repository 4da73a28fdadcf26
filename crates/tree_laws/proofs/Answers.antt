-- The answer to an ask that a closed tree gives has its hashes, and reaches the root where enough proof layers were asked for.
use Rattle.std.proofs.Common.{◌≡◌, ◌⊎◌, ℕ, zero, suc, ◌+◌, ◌-◌, ◌*◌, ◌/◌, ◌^◌, ◌<◌, ◌≤◌, List, map, length, get_or, Some, inl, inr, sym, ap, ap₂, ◌∙◌, arith}
use Rattle.std.proofs.Common.{length-append, shr-shr, div-one}
use Rattle.std.specs.Prelude.{slice_get}
use Rattle.std.specs.Option.{unwrap_or}
use Rattle.std.specs.List.{range_with_len}
use Rattle.std.proofs.lemmas.Option.{slice_get_within, get_or_from_slice_get}
use Rattle.std.proofs.lemmas.List.{get_or_append_left, get_or-append_right}
use Rattle.std.proofs.lemmas.List.FromFn.{length-map-range_with_len, get_or-map-range_with_len}
use Rattle.wire.specs.declared.message.Ask.{Ask}
use Rattle.partial_tree.specs.TreeRoot.{TreeRoot}
use Rattle.node_maps.specs.Places.{tree_height, PartialTree, IsKnown}
use Rattle.node_maps.specs.Digest.{Hash}
use Rattle.hashtree.specs.Tree.{pad_leaf}
use Rattle.partial_tree.specs.Closed.{IsFamily, IsClosed, Collision}
use Rattle.partial_tree.specs.Claims.{span, cover, above, sibling, base_hash, uncle_hash, top_layer, top_index, GoodCount, IsAccepted, IsHeldBy, hash_or_pad}
use Rattle.partial_tree.specs.Claims.{answer_uncles, answer_of, CanAnswer}
use Rattle.partial_tree.proofs.Powers.{exponent_le, div_small, spans-some}
use Rattle.partial_tree.proofs.Tracing.{left_or_right}
use Rattle.partial_tree.proofs.ClaimValues.{either, base-read, uncle-read}
use Rattle.tree_laws.proofs.Stored.{stored_or_collision}

-- what a known place has is what the tree has there
pub value-known : (K : PartialTree) (l i : ℕ) → IsKnown K l i → K l i ≡ Some (hash_or_pad K l i)
value-known K l i (v, e) = e ∙ ap Some (sym (ap (λ o. unwrap_or o pad_leaf) e))

-- with a place, its ancestors are known, d layers up
pub ancestor-known : (t : TreeRoot) (K : PartialTree) → IsClosed t K → (d l i : ℕ) → l + d ≤ tree_height t.length → IsKnown K l i
    → IsKnown K (l + d) (i / 2 ^ d)
ancestor-known t K closed zero l i room (v, e) =
    let here : l + 0 ≡ l = omega arith in
    (v, ap₂ K here (div-one i) ∙ e)
ancestor-known t K closed (suc d) l i room (v, e) =
    let fam : IsFamily K l (i / 2) = closed.families l i v e (omega arith) in
    let up = ancestor-known t K closed d (suc l) (i / 2) (omega arith) (_, fam.parent_known) in
    let layer : l + suc d ≡ suc l + d = omega arith in
    let exponent : suc d ≡ 1 + d = omega arith in
    (up.0, ap₂ K layer (ap (λ k. i / 2 ^ k) exponent ∙ sym (shr-shr i 1 d)) ∙ up.1)

-- and its sibling
pub sibling-known : (t : TreeRoot) (K : PartialTree) → IsClosed t K → (l i : ℕ) → l < tree_height t.length → IsKnown K l i → IsKnown K l (sibling i)
sibling-known t K closed l i below (v, e) =
    let fam : IsFamily K l (i / 2) = closed.families l i v e below in
    elim (left_or_right i) [
      | inl even ↦ let s : sibling i ≡ 2 * (i / 2) + 1 = omega arith in (fam.right, ap (K l) s ∙ fam.right_known)
      | inr odd ↦ let s : sibling i ≡ 2 * (i / 2) = omega arith in (fam.left, ap (K l) s ∙ fam.left_known)
    ]

module _ (t : TreeRoot) (J : PartialTree) (ask : Ask) (closed : IsClosed t J) (can : CanAnswer (tree_height t.length) J ask) where
  -- the parts of the answer
  base_value : ℕ → Hash
  base_value j = hash_or_pad J ask.base (ask.index + j)

  uncle_value : ℕ → Hash
  uncle_value j = hash_or_pad J (cover ask + j) (sibling (above ask (cover ask + j)))

  pub answer-length : length (answer_of (tree_height t.length) J ask) ≡ ask.length + answer_uncles (tree_height t.length) ask
  answer-length =
      length-append (map (λ j. hash_or_pad J ask.base (ask.index + j)) (range_with_len 0 ask.length)) _
      ∙ ap₂ (λ a b. a + b) (length-map-range_with_len (λ j. hash_or_pad J ask.base (ask.index + j)) 0 ask.length)
      (length-map-range_with_len (λ j. hash_or_pad J (cover ask + j) (sibling (above ask (cover ask + j)))) 0 (answer_uncles (tree_height t.length) ask))

  pub cover-inside : cover ask ≤ tree_height t.length
  cover-inside =
      let le : 2 ^ span ask ≤ 2 ^ (tree_height t.length - ask.base) = omega (arith, can.range.power_of_two, can.range.range_inside) in
      let k : span ask ≤ tree_height t.length - ask.base = exponent_le (span ask) (tree_height t.length - ask.base) le in
      omega (arith, can.range.base_inside)

  pub answer-count : GoodCount (tree_height t.length) ask (answer_of (tree_height t.length) J ask)
  answer-count =
      let len : length (answer_of (tree_height t.length) J ask) ≡ ask.length + answer_uncles (tree_height t.length) ask = answer-length in
      let inside : cover ask ≤ tree_height t.length = cover-inside in
      record { enough = omega arith; asked = omega arith; top_inside = omega arith }

  -- what stands in the answer
  base-read_back : (k : ℕ) (v : Hash) → k < ask.length → slice_get (answer_of (tree_height t.length) J ask) k ≡ Some v → base_value k ≡ v
  unfolding base_value
  base-read_back k v inside e =
      let first : List Hash = map (λ j. hash_or_pad J ask.base (ask.index + j)) (range_with_len 0 ask.length) in
      let len : length first ≡ ask.length = length-map-range_with_len (λ j. hash_or_pad J ask.base (ask.index + j)) 0 ask.length in
      sym (get_or-map-range_with_len (λ j. hash_or_pad J ask.base (ask.index + j)) 0 ask.length k k pad_leaf inside (omega arith))
      ∙ sym (get_or_append_left first (map (λ j. hash_or_pad J (cover ask + j) (sibling (above ask (cover ask + j))))
      (range_with_len 0 (answer_uncles (tree_height t.length) ask))) pad_leaf k (omega arith))
      ∙ get_or_from_slice_get (answer_of (tree_height t.length) J ask) k v pad_leaf e

  uncle-read_back : (j : ℕ) (v : Hash) → j < answer_uncles (tree_height t.length) ask
      → slice_get (answer_of (tree_height t.length) J ask) (ask.length + j) ≡ Some v → uncle_value j ≡ v
  unfolding uncle_value
  uncle-read_back j v inside e =
      let first : List Hash = map (λ k. hash_or_pad J ask.base (ask.index + k)) (range_with_len 0 ask.length) in
      let len : length first ≡ ask.length = length-map-range_with_len (λ k. hash_or_pad J ask.base (ask.index + k)) 0 ask.length in
      let back : ask.length + j - ask.length ≡ j = omega arith in
      sym (get_or-map-range_with_len (λ k. hash_or_pad J (cover ask + k) (sibling (above ask (cover ask + k)))) 0 (answer_uncles (tree_height t.length) ask) j j
      pad_leaf inside (omega arith))
      ∙ sym (get_or-append_right first (map (λ k. hash_or_pad J (cover ask + k) (sibling (above ask (cover ask + k))))
      (range_with_len 0 (answer_uncles (tree_height t.length) ask))) ask.length (ask.length + j) pad_leaf len (omega arith)
      ∙ ap (λ k. get_or (map (λ k. hash_or_pad J (cover ask + k) (sibling (above ask (cover ask + k))))
      (range_with_len 0 (answer_uncles (tree_height t.length) ask))) k pad_leaf) back)
      ∙ get_or_from_slice_get (answer_of (tree_height t.length) J ask) (ask.length + j) v pad_leaf e

  -- the nodes above the base range are known
  path-known : (l : ℕ) → ask.base ≤ l → l ≤ tree_height t.length → IsKnown J l (above ask l)
  path-known l from to =
      let some_length : 0 < ask.length = omega (arith, can.range.least) in
      let first = can.base_known 0 some_length in
      let start : ask.index + 0 ≡ ask.index = omega arith in
      let up = ancestor-known t J closed (l - ask.base) ask.base (ask.index + 0) (omega arith) first in
      let layer : l ≡ ask.base + (l - ask.base) = omega arith in
      (up.0, ap₂ J layer (ap (λ k. k / 2 ^ (l - ask.base)) (sym start)) ∙ up.1)

  pub answer-said : IsHeldBy J ask (answer_of (tree_height t.length) J ask)
  unfolding base_value uncle_value
  answer-said l i v e = elim (either (base_hash ask (answer_of (tree_height t.length) J ask) l i) (uncle_hash ask (answer_of (tree_height t.length) J ask) l i)
      v e) [
        | inl b ↦
            let (at, low, high, got) = base-read ask (answer_of (tree_height t.length) J ask) l i v b in
            let inside : i - ask.index < ask.length = omega arith in
            let back : ask.index + (i - ask.index) ≡ i = omega arith in
            ap₂ J at (sym back)
            ∙ value-known J ask.base (ask.index + (i - ask.index)) (can.base_known (i - ask.index) inside)
            ∙ ap Some (base-read_back (i - ask.index) v inside got)
        | inr (none, w) ↦
            let (from, at, got) = uncle-read ask (answer_of (tree_height t.length) J ask) l i v w in
            let len : length (answer_of (tree_height t.length) J ask) ≡ ask.length + answer_uncles (tree_height t.length) ask = answer-length in
            let hashes = answer_of (tree_height t.length) J ask in
            let within : ask.length + (l - cover ask) < length hashes = slice_get_within hashes (ask.length + (l - cover ask)) v got in
            let inside : l - cover ask < answer_uncles (tree_height t.length) ask = omega arith in
            let layer : cover ask + (l - cover ask) ≡ l = omega arith in
            let cover_in : cover ask ≤ tree_height t.length = cover-inside in
            let below : l < tree_height t.length = omega arith in
            let there : IsKnown J l (sibling (above ask l)) = sibling-known t J closed l (above ask l) below (path-known l (omega arith) (omega arith)) in
            ap (J l) at
            ∙ value-known J l (sibling (above ask l)) there
            ∙ ap Some (sym (ap (λ k. hash_or_pad J k (sibling (above ask k))) layer) ∙ uncle-read_back (l - cover ask) v inside got)
      ]

  -- with enough proof layers the answer reaches the root
  pub answer-reaches : tree_height t.length - ask.base - 1 ≤ ask.proof → top_layer ask (answer_of (tree_height t.length) J ask) ≡ tree_height t.length
  answer-reaches all =
      let len : length (answer_of (tree_height t.length) J ask) ≡ ask.length + answer_uncles (tree_height t.length) ask = answer-length in
      let cover_in : cover ask ≤ tree_height t.length = cover-inside in
      let spans : 1 ≤ span ask = spans-some (tree_height t.length) ask can.range in
      omega arith

  pub answer-root : tree_height t.length - ask.base - 1 ≤ ask.proof → top_index ask (answer_of (tree_height t.length) J ask) ≡ 0
  answer-root all =
      ap (above ask) (answer-reaches all) ∙ div_small ask.index (2 ^ (tree_height t.length - ask.base)) (omega (arith, can.range.range_inside, can.range.least))

-- what one closed tree answers to an ask with enough proof layers, each other accepts, or a collision is named
pub answer-stored : (t : TreeRoot) (J K : PartialTree) (ask : Ask) → IsClosed t J → IsClosed t K → CanAnswer (tree_height t.length) J ask
    → tree_height t.length - ask.base - 1 ≤ ask.proof → IsAccepted t.length K ask (answer_of (tree_height t.length) J ask) ⊎ Collision J K
answer-stored t J K ask closed_J closed_K can all =
    stored_or_collision t J K ask (answer_of (tree_height t.length) J ask) closed_J closed_K can.range
    (answer-count t J ask closed_J can) (answer-said t J ask closed_J can)
    (t.root, ap₂ K (answer-reaches t J ask closed_J can all) (answer-root t J ask closed_J can all) ∙ closed_K.root_known)
