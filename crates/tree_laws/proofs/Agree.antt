-- Two closed partial trees of one tree agree wherever both have a value, or a collision of them is named.
use Rattle.std.proofs.Common.{◌≡◌, ◌⊎◌, ℕ, zero, suc, ◌+◌, ◌-◌, ◌*◌, ◌/◌, ◌^◌, ◌<◌, ◌++◌, Some, inl, inr, sym, ap, ap₂, ◌∙◌, subst, arith}
use Rattle.std.proofs.lemmas.Option.{same_Some}
use Rattle.partial_tree.specs.TreeRoot.{TreeRoot}
use Rattle.node_maps.specs.Places.{tree_height, PartialTree, IsTreePlace}
use Rattle.node_maps.specs.Digest.{Hash, join}
use Rattle.partial_tree.specs.Closed.{IsFamily, IsClosed, Collision}
use Rattle.chains.proofs.Cases.{same_or_not, same_parts}
use Rattle.partial_tree.proofs.Tracing.{left_or_right}

module _ (t : TreeRoot) (J K : PartialTree) (closed_J : IsClosed t J) (closed_K : IsClosed t K) where
  -- where the parents agree the children agree, or their joins are a collision
  down : (l j : ℕ) → (a : IsFamily J l j) (b : IsFamily K l j)
      → (join a.left a.right ≡ join b.left b.right)
      → ((a.left ≡ b.left) × (a.right ≡ b.right)) ⊎ Collision J K
  down l j a b e =
      elim (same_or_not (a.left ++ a.right) (b.left ++ b.right)) [
        | inl same ↦ inl (same_parts a.left a.right b.left b.right
            ((closed_J.hashes l (2 * j) a.left a.left_known).size ∙ sym (closed_K.hashes l (2 * j) b.left b.left_known).size) same)
        | inr other ↦ inr (record {
          layer = l;
          index = j;
          J_left = a.left;
          J_right = a.right;
          K_left = b.left;
          K_right = b.right;
          J_left_known = a.left_known;
          J_right_known = a.right_known;
          K_left_known = b.left_known;
          K_right_known = b.right_known;
          differ = other;
          one_digest = e;
        })
      ]

  -- from the values of the two children to the value of the place itself
  chosen : (l i : ℕ) (u v : Hash) (a : IsFamily J l (i / 2)) (b : IsFamily K l (i / 2))
      → J l i ≡ Some u → K l i ≡ Some v → (a.left ≡ b.left) × (a.right ≡ b.right) → u ≡ v
  chosen l i u v a b p q same = elim (left_or_right i) [
    | inl e ↦ same_Some u v (sym p ∙ ap (J l) e ∙ a.left_known ∙ ap Some same.0 ∙ sym b.left_known ∙ sym (ap (K l) e) ∙ q)
    | inr e ↦ same_Some u v (sym p ∙ ap (J l) e ∙ a.right_known ∙ ap Some same.1 ∙ sym b.right_known ∙ sym (ap (K l) e) ∙ q)
  ]

  -- by the number d of layers between the place and the root
  climb : (d l i : ℕ) (u v : Hash) → l + d ≡ tree_height t.length → J l i ≡ Some u → K l i ≡ Some v → (u ≡ v) ⊎ Collision J K
  climb zero l i u v at p q =
      let here : l ≡ tree_height t.length = omega arith in
      let inside : IsTreePlace (tree_height t.length) l i = closed_J.in_tree l i u p in
      let none_left : tree_height t.length - l ≡ 0 = omega arith in
      let first : i ≡ 0 = omega (arith, subst (λ k. i < 2 ^ k) none_left inside.1) in
      inl (same_Some u v (sym p ∙ ap₂ J here first ∙ closed_J.root_known ∙ sym closed_K.root_known ∙ sym (ap₂ K here first) ∙ q))
  climb (suc d) l i u v at p q =
      let below : l < tree_height t.length = omega arith in
      let a : IsFamily J l (i / 2) = closed_J.families l i u p below in
      let b : IsFamily K l (i / 2) = closed_K.families l i v q below in
      joined_up a b (climb d (suc l) (i / 2) (join a.left a.right) (join b.left b.right) (omega arith) a.parent_known b.parent_known)
    where
      children : (a : IsFamily J l (i / 2)) (b : IsFamily K l (i / 2)) → ((a.left ≡ b.left) × (a.right ≡ b.right)) ⊎ Collision J K → (u ≡ v) ⊎ Collision J K
      children a b (inl same) = inl (chosen l i u v a b p q same)
      children a b (inr collision) = inr collision

      joined_up : (a : IsFamily J l (i / 2)) (b : IsFamily K l (i / 2)) → (join a.left a.right ≡ join b.left b.right) ⊎ Collision J K → (u ≡ v) ⊎ Collision J K
      joined_up a b (inl e) = children a b (down l (i / 2) a b e)
      joined_up a b (inr collision) = inr collision

  pub agree_or_collision : (l i : ℕ) (u v : Hash) → J l i ≡ Some u → K l i ≡ Some v → (u ≡ v) ⊎ Collision J K
  agree_or_collision l i u v p q =
      let in_tree = closed_J.in_tree l i u p in
      climb (tree_height t.length - l) l i u v (omega (arith, in_tree.0)) p q
