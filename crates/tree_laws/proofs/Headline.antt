-- A block whose digest is a known leaf is the block of every file that fits, or a collision is named.
use Rattle.std.proofs.Common.{◌≡◌, ◌⊎◌, ℕ, ◌-◌, ◌*◌, ◌^◌, ◌<◌, ◌≤◌, min, List, length, drop, Some, inl, inr, sym, ap, ◌∙◌, subst, arith, length-take}
use Rattle.std.proofs.Common.{length-drop}
use Rattle.sha2.specs.Sha256.{sha256}
use Rattle.partial_tree.specs.TreeRoot.{TreeRoot, Fits}
use Rattle.node_maps.specs.Places.{tree_height, PartialTree}
use Rattle.node_maps.specs.Digest.{Hash}
use Rattle.hashtree.specs.Tree.{block, block_count}
use Rattle.partial_tree.specs.Closed.{IsClosed, Collision, BlockCollision, whole}
use Rattle.chains.proofs.Cases.{same_or_not}
use Rattle.hashtree.proofs.Heights.{height_enough}
use Rattle.tree_laws.proofs.Trees.{node-leaf}
use Rattle.tree_laws.proofs.Whole.{whole-at, whole-closed}
use Rattle.tree_laws.proofs.Agree.{agree_or_collision}

-- the leaf of a block in the whole tree
pub whole-leaf : (f : List ℕ) (i : ℕ) → i < block_count (length f) → whole f 0 i ≡ Some (sha256 (block f i))
whole-leaf f i inside =
    let enough : block_count (length f) ≤ 2 ^ tree_height (length f) = height_enough (block_count (length f)) in
    let e : tree_height (length f) - 0 ≡ tree_height (length f) = omega arith in
    let at : i < 2 ^ (tree_height (length f) - 0) = subst (λ k. i < 2 ^ k) (sym e) (omega arith) in
    whole-at f 0 i (omega arith, at) ∙ ap Some (node-leaf f i inside)

-- a block of a file has the block's length
pub block-size : (f : List ℕ) (i : ℕ) → length (block f i) ≡ min 16384 (length f - 16384 * i)
block-size f i = length-take 16384 (drop (16384 * i) f) ∙ ap (min 16384) (length-drop (16384 * i) f)

module _ (t : TreeRoot) (K : PartialTree) (f : List ℕ) (closed : IsClosed t K) (fits : Fits f t.length t.root) (i : ℕ) (inside : i < block_count t.length) where
  -- a known leaf is the digest of the file's block
  pub leaf_or_collision : (leaf : Hash) → K 0 i ≡ Some leaf → (leaf ≡ sha256 (block f i)) ⊎ Collision (whole f) K
  leaf_or_collision leaf known =
      elim (agree_or_collision t (whole f) K (whole-closed f t fits) closed 0 i (sha256 (block f i)) leaf
      (whole-leaf f i (subst (λ n. i < block_count n) (sym fits.same_length) inside)) known) [
        | inl same ↦ inl (sym same)
        | inr collision ↦ inr collision
      ]

  -- a block that is taken is the file's block
  pub block_or_collision : (leaf b : List ℕ) → K 0 i ≡ Some leaf → sha256 b ≡ leaf → (b ≡ block f i) ⊎ (Collision (whole f) K ⊎ BlockCollision f i b)
  block_or_collision leaf b known taken = elim (leaf_or_collision leaf known) [
    | inr collision ↦ inr (inl collision)
    | inl same ↦ elim (same_or_not b (block f i)) [
      | inl e ↦ inl e
      | inr other ↦ inr (inr (record { differ = other; one_digest = taken ∙ same }))
    ]
  ]
