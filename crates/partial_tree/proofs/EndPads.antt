-- The pads beside a file's end: what each is, and that a closed tree in which the last leaf is known stays closed with them.
use Rattle.std.proofs.Common.{◌≡◌, ◌⊎◌, ℕ, zero, suc, ◌+◌, ◌-◌, ◌*◌, ◌/◌, ◌^◌, ◌<◌, ◌≤◌, ◌&&◌, ◌%◌, min, ltb, Some, None, inl, inr}
use Rattle.std.proofs.Common.{sym, ap, ◌∙◌, subst}
use Rattle.std.proofs.Common.{arith, div-one, shr-shr, pow_pos}
use Rattle.std.proofs.lemmas.Bool.{and_parts, and_from, ltb-true, lt-ltb, cond-true, cases_lt}
use Rattle.std.proofs.lemmas.Nat.{div_below, mul-le, one_shl}
use Rattle.partial_tree.proofs.Ranges.{pow_more}
use Rattle.std.proofs.Math.Nat.{lt-div-mul-add, div-mul-le_self}
use Rattle.std.proofs.lemmas.Option.{same_Some, none-some}
use Rattle.chains.proofs.Cases.{some_or_none}
use Rattle.node_maps.specs.Digest.{Hash, IsHash, join}
use Rattle.node_maps.specs.Places.{tree_height, PartialTree, IsKnown}
use Rattle.node_maps.proofs.Places.{twice_above}
use Rattle.hashtree.specs.Tree.{block_count, zero_hash}
use Rattle.hashtree.proofs.Heights.{height_enough, pow_split}
use Rattle.hashtree.proofs.Zeros.{zero_hash-suc}
use Rattle.partial_tree.specs.TreeRoot.{TreeRoot}
use Rattle.partial_tree.specs.Closed.{IsClosed, IsFamily}
use Rattle.partial_tree.specs.Claims.{joined, IsAgreed}
use Rattle.partial_tree.specs.EndPads.{last_node, pads_end, is_end_pad, end_pads}
use Rattle.partial_tree.proofs.ClaimValues.{guarded, either, first_of_two, second_of_two}
use Rattle.partial_tree.proofs.Joining.{joined-keeps}
use Rattle.partial_tree.proofs.WholeLayers.{zero_hash-is_hash}

module _ (len : ℕ) where
  -- what stands at such a pad
  pub pad-read : (l i : ℕ) (v : Hash) → end_pads len l i ≡ Some v
      → (l < tree_height len) × (last_node len l < i) × (i < pads_end len l) × (v ≡ zero_hash l)
  pad-read l i v e =
      let both = guarded (is_end_pad len l i) (Some (zero_hash l)) v e in
      let one = and_parts (ltb l (tree_height len)) (ltb (last_node len l) i && ltb i (pads_end len l)) both.0 in
      let two = and_parts (ltb (last_node len l) i) (ltb i (pads_end len l)) one.1 in
      (ltb-true _ _ one.0, ltb-true _ _ two.0, ltb-true _ _ two.1, sym (same_Some (zero_hash l) v both.1))

  pub pad-here : (l i : ℕ) → l < tree_height len → last_node len l < i → i < pads_end len l → end_pads len l i ≡ Some (zero_hash l)
  pad-here l i low from to = cond-true _ _ _ (and_from _ _ (lt-ltb l (tree_height len) low)
      (and_from _ _ (lt-ltb (last_node len l) i from) (lt-ltb i (pads_end len l) to)))

  -- it lies wholly past the file's end
  pub pad-past : (l i : ℕ) → last_node len l < i → block_count len ≤ i * 2 ^ l
  pad-past l i from =
      let more : block_count len - 1 < (block_count len - 1) / 2 ^ l * 2 ^ l + 2 ^ l = lt-div-mul-add (pow_pos l) in
      let up : (last_node len l + 1) * 2 ^ l ≤ i * 2 ^ l = mul-le (last_node len l + 1) (2 ^ l) i (2 ^ l) (omega (arith, from)) (omega arith) in
      let one : (last_node len l + 1) * 2 ^ l ≡ last_node len l * 2 ^ l + 2 ^ l = omega arith in
      omega (arith, more, up, one)

  -- and what lies past it stands behind the node over the last block
  pub past-pad : (l i : ℕ) → 0 < block_count len → block_count len ≤ i * 2 ^ l → last_node len l < i
  past-pad l i some past = elim (cases_lt (last_node len l) i) [
    | inl from ↦ from
    | inr low ↦
        let le : i * 2 ^ l ≤ last_node len l * 2 ^ l = mul-le i (2 ^ l) (last_node len l) (2 ^ l) low (omega arith) in
        let whole : (block_count len - 1) / 2 ^ l * 2 ^ l ≤ block_count len - 1 = div-mul-le_self (block_count len - 1) (2 ^ l) in
        absurd (omega (arith, le, whole, past, some))
  ]

  -- the node over the last block stands under that of the next layer
  pub last-up : (l : ℕ) → last_node len l / 2 ≡ last_node len (suc l)
  last-up l = let e : l + 1 ≡ suc l = omega arith in shr-shr (block_count len - 1) l 1 ∙ ap (λ k. (block_count len - 1) / 2 ^ k) e

  -- it is a place of the tree
  pub last-inside : (l : ℕ) → l ≤ tree_height len → 0 < block_count len → last_node len l < 2 ^ (tree_height len - l)
  last-inside l low some =
      let enough : block_count len ≤ 2 ^ tree_height len = height_enough (block_count len) in
      let split : 2 ^ (tree_height len - l) * 2 ^ l ≡ 2 ^ tree_height len = pow_split (tree_height len) l low in
      div_below (block_count len - 1) (2 ^ l) (2 ^ (tree_height len - l)) (pow_pos l) (omega (arith, enough, split, some))

  -- the range begins behind it
  pub pads-behind : (l : ℕ) → l ≤ tree_height len → 0 < block_count len → last_node len l + 1 ≤ pads_end len l
  pads-behind l low some = let inside = last-inside l low some in omega (arith, inside)

  -- the children of a place behind it are pads with the same parent, which is one too
  pub pad-parent : (l i : ℕ) → suc l < tree_height len → last_node len (suc l) < i / 2 → i < pads_end len l → i / 2 < pads_end len (suc l)
  pad-parent l i low from to =
      let up : last_node len l / 2 ≡ last_node len (suc l) = last-up l in
      let twice : 2 ^ (tree_height len - l) ≡ 2 ^ (tree_height len - suc l) + 2 ^ (tree_height len - suc l) =
      twice_above (tree_height len) l (omega (arith, low)) in
      omega (arith, up, twice, to)

  pub pad-left : (l i : ℕ) → last_node len (suc l) < i / 2 → last_node len l < 2 * (i / 2)
  pad-left l i from = let up : last_node len l / 2 ≡ last_node len (suc l) = last-up l in omega (arith, up, from)

  pub pad-right : (l i : ℕ) → l < tree_height len → i < pads_end len l → 2 * (i / 2) + 1 < pads_end len l
  pad-right l i low to =
      let twice : 2 ^ (tree_height len - l) ≡ 2 ^ (tree_height len - suc l) + 2 ^ (tree_height len - suc l) = twice_above (tree_height len) l low in
      omega (arith, twice, to)

  -- above a pad stands a pad, or the node over the last block
  pub pad-up : (l i : ℕ) → last_node len l < i → (last_node len (suc l) < i / 2) ⊎ (last_node len (suc l) ≡ i / 2)
  pad-up l i from =
      let up : last_node len l / 2 ≡ last_node len (suc l) = last-up l in
      elim (cases_lt (last_node len (suc l)) (i / 2)) [
        | inl less ↦ inl less
        | inr high ↦ inr (omega (arith, up, high, from))
      ]

  -- the root is none
  pub pad-below : (l i : ℕ) → l < tree_height len → last_node len (suc l) < i / 2 → i < pads_end len l → suc l < tree_height len
  pad-below l i low from to = elim (cases_lt (suc l) (tree_height len)) [
    | inl less ↦ less
    | inr last ↦
        let one : tree_height len - l ≡ 1 = omega (arith, low, last) in
        let two : 2 ^ (tree_height len - l) ≡ 2 = ap (λ k. 2 ^ k) one in
        absurd (omega (arith, two, from, to))
  ]

-- ---- in a closed tree

module _ (t : TreeRoot) (K : PartialTree) (closed : IsClosed t K) where
  -- above a known leaf all nodes are known
  pub climbed : (x l : ℕ) → IsKnown K 0 x → l ≤ tree_height t.length → IsKnown K l (x / 2 ^ l)
  climbed x zero known low = (known.0, ap (K 0) (div-one x) ∙ known.1)
  climbed x (suc l) known low =
      let below : IsKnown K l (x / 2 ^ l) = climbed x l known (omega (arith, low)) in
      let fam : IsFamily K l (x / 2 ^ l / 2) = closed.families l (x / 2 ^ l) below.0 below.1 (omega (arith, low)) in
      let e : l + 1 ≡ suc l = omega arith in
      (join fam.left fam.right, ap (K (suc l)) (sym (shr-shr x l 1 ∙ ap (λ k. x / 2 ^ k) e)) ∙ fam.parent_known)

  -- the pads differ nowhere from what is known
  pub pads-agree : IsAgreed K (end_pads t.length)
  pads-agree l i u v known pad =
      let (low, from, to, is) = pad-read t.length l i v pad in
      closed.pads l i u known (pad-past t.length l i from) ∙ sym is

  abbrev with_pads : PartialTree
  with_pads = joined K (end_pads t.length)

  pub has-pad : (l i : ℕ) → l < tree_height t.length → last_node t.length l < i → i < pads_end t.length l → with_pads l i ≡ Some (zero_hash l)
  has-pad l i low from to =
      let pad : end_pads t.length l i ≡ Some (zero_hash l) = pad-here t.length l i low from to in
      elim (some_or_none (K l i)) [
        | inl (u, known) ↦ first_of_two (K l i) _ (zero_hash l) (known ∙ ap Some (pads-agree l i u (zero_hash l) known pad))
        | inr none ↦ second_of_two (K l i) _ none ∙ pad
      ]

  kept-family : (l j : ℕ) → IsFamily K l j → IsFamily with_pads l j
  kept-family l j fam = record {
    left = fam.left;
    right = fam.right;
    left_known = joined-keeps K (end_pads t.length) l (2 * j) fam.left fam.left_known;
    right_known = joined-keeps K (end_pads t.length) l (2 * j + 1) fam.right fam.right_known;
    parent_known = joined-keeps K (end_pads t.length) (suc l) j (join fam.left fam.right) fam.parent_known;
  }

  module _ (last : IsKnown K 0 (block_count t.length - 1)) where
    last-known : (l : ℕ) → l ≤ tree_height t.length → IsKnown K l (last_node t.length l)
    last-known l low = climbed (block_count t.length - 1) l last low

    -- a pad beside the node over the last block is known already
    beside-last : (l i : ℕ) → l < tree_height t.length → last_node t.length l < i → last_node t.length (suc l) ≡ i / 2 → K l i ≡ None → ⊥
    beside-last l i low from here none =
        let node = last-known l (omega (arith, low)) in
        let fam : IsFamily K l (last_node t.length l / 2) = closed.families l (last_node t.length l) node.0 node.1 low in
        let up : last_node t.length l / 2 ≡ last_node t.length (suc l) = last-up t.length l in
        let right : 2 * (last_node t.length l / 2) + 1 ≡ i = omega (arith, up, here, from) in
        none-some fam.right (sym none ∙ ap (K l) (sym right) ∙ fam.right_known)

    new-family : (l i : ℕ) (v : Hash) → K l i ≡ None → end_pads t.length l i ≡ Some v → IsFamily with_pads l (i / 2)
    new-family l i v none pad =
        let (low, from, to, is) = pad-read t.length l i v pad in
        elim (pad-up t.length l i from) [
          | inr here ↦ absurd (beside-last l i low from here none)
          | inl above ↦
              let below : suc l < tree_height t.length = pad-below t.length l i low above to in
              let right : 2 * (i / 2) + 1 < pads_end t.length l = pad-right t.length l i low to in
              let left : last_node t.length l < 2 * (i / 2) = pad-left t.length l i above in
              record {
                left = zero_hash l;
                right = zero_hash l;
                left_known = has-pad l (2 * (i / 2)) low left (omega (arith, right));
                right_known = has-pad l (2 * (i / 2) + 1) low (omega (arith, left)) right;
                parent_known = has-pad (suc l) (i / 2) below above (pad-parent t.length l i below above to) ∙ ap Some (zero_hash-suc l);
              }
        ]

    pub pads-closed : IsClosed t with_pads
    pads-closed = record {
      root_known = joined-keeps K (end_pads t.length) (tree_height t.length) 0 t.root closed.root_known;
      in_tree = λ l i v e. elim (either (K l i) (end_pads t.length l i) v e) [
        | inl known ↦ closed.in_tree l i v known
        | inr new ↦ (let (low, from, to, is) = pad-read t.length l i v new.1 in (omega (arith, low), omega (arith, to)))
      ];
      hashes = λ l i v e. elim (either (K l i) (end_pads t.length l i) v e) [
        | inl known ↦ closed.hashes l i v known
        | inr new ↦ (let (low, from, to, is) = pad-read t.length l i v new.1 in subst (λ h. IsHash h) (sym is) (zero_hash-is_hash l))
      ];
      families = λ l i v e below. elim (either (K l i) (end_pads t.length l i) v e) [
        | inl known ↦ kept-family l (i / 2) (closed.families l i v known below)
        | inr new ↦ new-family l i v new.0 new.1
      ];
      pads = λ l i v e past. elim (either (K l i) (end_pads t.length l i) v e) [
        | inl known ↦ closed.pads l i v known past
        | inr new ↦ (pad-read t.length l i v new.1).3
      ];
    }

-- ---- as they are computed

-- the number of blocks, the height, and where the pads of a layer below the root's end
pub record IsPadRow (len l b h e : ℕ) : Type 0 where
  pub blocks : b ≡ block_count len
  pub tall : h ≡ tree_height len
  pub few : h ≤ 32
  pub low : l < h
  pub some : 0 < b
  pub is : e ≡ min (1 * 2 ^ (h - l) % 2 ^ 64) (((b - 1) / 2 ^ l / 512 + 1) * 512)

module _ {len l b h e : ℕ} (x : IsPadRow len l b h e) where
  pub last-is : (b - 1) / 2 ^ l ≡ last_node len l
  last-is = ap (λ n. (n - 1) / 2 ^ l) x.blocks

  pub end-is : e ≡ pads_end len l
  end-is =
      let wide : 1 * 2 ^ (h - l) % 2 ^ 64 ≡ 2 ^ (h - l) = one_shl (h - l) 64 (omega (arith, x.few)) in
      let layer : 2 ^ (h - l) ≡ 2 ^ (tree_height len - l) = ap (λ n. 2 ^ (n - l)) x.tall in
      omega (arith, x.is, wide, layer, last-is)

  pub end-behind : (b - 1) / 2 ^ l + 1 ≤ e
  end-behind =
      let behind : last_node len l + 1 ≤ pads_end len l = pads-behind len l (omega (arith, x.low, x.tall)) (omega (arith, x.some, x.blocks)) in
      omega (arith, behind, end-is, last-is)

  pub end-low : e ≤ 2 ^ 32
  end-low =
      let layer : 2 ^ (tree_height len - l) ≤ 2 ^ 32 = pow_more (tree_height len - l) 32 (omega (arith, x.tall, x.few)) in
      omega (arith, end-is, layer)
