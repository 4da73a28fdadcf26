-- What is known above a known leaf.
use Rattle.std.proofs.Common.{◌≡◌, ℕ, zero, suc, ◌+◌, ◌*◌, ◌/◌, ◌^◌, ◌≤◌, Some, sym, ap, ◌∙◌, subst, arith, div-one, shr-shr}
use Rattle.node_maps.specs.Digest.{join}
use Rattle.node_maps.specs.Places.{tree_height, PartialTree, IsKnown}
use Rattle.partial_tree.specs.Closed.{IsClosed, IsFamily}
use Rattle.partial_tree.specs.TreeRoot.{TreeRoot}

half : (b j : ℕ) → b / 2 ^ j / 2 ≡ b / 2 ^ suc j
half b j = let one : j + 1 ≡ suc j = omega arith in shr-shr b j 1 ∙ ap (λ k. b / 2 ^ k) one

module _ (t : TreeRoot) (K : PartialTree) (closed : IsClosed t K) (b : ℕ) (leaf : IsKnown K 0 b) where
  -- the nodes over it
  pub over-leaf : (k : ℕ) → k ≤ tree_height t.length → IsKnown K k (b / 2 ^ k)
  over-leaf zero low = subst (IsKnown K 0) (sym (div-one b)) leaf
  over-leaf (suc j) low =
      let below = over-leaf j (omega (arith, low)) in
      let fam : IsFamily K j (b / 2 ^ j / 2) = closed.families j (b / 2 ^ j) below.0 below.1 (omega (arith, low)) in
      (join fam.left fam.right, subst (λ i. K (suc j) i ≡ Some (join fam.left fam.right)) (half b j) fam.parent_known)

  -- the first child of each of them
  pub first_child-known : (j : ℕ) → suc j ≤ tree_height t.length → IsKnown K j (2 * (b / 2 ^ suc j))
  first_child-known j low =
      let below = over-leaf j (omega (arith, low)) in
      let fam : IsFamily K j (b / 2 ^ j / 2) = closed.families j (b / 2 ^ j) below.0 below.1 (omega (arith, low)) in
      (fam.left, subst (λ i. K j (2 * i) ≡ Some fam.left) (half b j) fam.left_known)
