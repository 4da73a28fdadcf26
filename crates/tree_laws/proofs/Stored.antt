-- A message whose hashes a closed tree has is accepted by each other closed tree that knows its top, or a
-- collision of the two is named.
use Rattle.std.proofs.Common.{◌≡◌, ◌⊎◌, ℕ, zero, suc, ◌+◌, ◌-◌, ◌*◌, ◌/◌, ◌^◌, ◌<◌, List, Some, None, inl, inr, sym, ap, ap₂, ◌∙◌, subst, arith, eq-or-lt_of_le}
use Rattle.std.proofs.lemmas.Option.{same_Some, none-some}
use Rattle.chains.proofs.Cases.{some_or_none}
use Rattle.wire.specs.declared.message.Ask.{Ask}
use Rattle.partial_tree.specs.TreeRoot.{TreeRoot}
use Rattle.node_maps.specs.Places.{tree_height, PartialTree, IsTreePlace}
use Rattle.node_maps.specs.Digest.{Hash, join}
use Rattle.partial_tree.specs.Closed.{IsFamily, IsClosed, Collision}
use Rattle.partial_tree.specs.Claims.{claims, top_layer, top_index, GoodRange, GoodCount, IsAccepted, IsAgreed, IsHeldBy}
use Rattle.tree_laws.proofs.Agree.{agree_or_collision}
use Rattle.partial_tree.proofs.Deciding.{each_below}
use Rattle.partial_tree.proofs.ClaimValues.{claims-read, claims-zero}

module _ (t : TreeRoot) (J K : PartialTree) (closed_J : IsClosed t J) (closed_K : IsClosed t K) where
  -- J and K agree at a place
  SameAt : ℕ → ℕ → Type 0
  SameAt l i = (u v : Hash) → J l i ≡ Some u → K l i ≡ Some v → u ≡ v

  same_at : (l i : ℕ) → SameAt l i ⊎ Collision J K
  unfolding SameAt
  same_at l i = both (some_or_none (J l i)) (some_or_none (K l i))
    where
      both : ((u : Hash) × (J l i ≡ Some u)) ⊎ (J l i ≡ None) → ((v : Hash) × (K l i ≡ Some v)) ⊎ (K l i ≡ None) → SameAt l i ⊎ Collision J K
      both (inr none) q = inl (λ u v e d. absurd (none-some u (sym none ∙ e)))
      both (inl p) (inr none) = inl (λ u v e d. absurd (none-some v (sym none ∙ d)))
      both (inl (a, p)) (inl (b, q)) = elim (agree_or_collision t J K closed_J closed_K l i a b p q) [
        | inl same ↦ inl (λ u v e d. same_Some u a (sym e ∙ p) ∙ same ∙ same_Some b v (sym q ∙ d))
        | inr collision ↦ inr collision
      ]

  -- two closed trees agree everywhere, or a collision of them is named
  pub agreed_or_collision : IsAgreed J K ⊎ Collision J K
  unfolding SameAt
  agreed_or_collision =
      elim (each_below (Collision J K) (λ l. (i : ℕ) → i < 2 ^ (tree_height t.length - l) → SameAt l i) (suc (tree_height t.length))
      (λ l h. each_below (Collision J K) (SameAt l) (2 ^ (tree_height t.length - l)) (λ i h'. same_at l i))) [
        | inl all ↦ inl (λ l i u v p q. let at : IsTreePlace (tree_height t.length) l i = closed_J.in_tree l i u p in all l (omega (arith, at.0)) i at.1 u v p
            q)
        | inr collision ↦ inr collision
      ]

-- the parent of two places that a closed tree has
given_parent : (t : TreeRoot) (J : PartialTree) → IsClosed t J → (l i : ℕ) (a b : Hash) → J l (2 * i) ≡ Some a → J l (2 * i + 1) ≡ Some b
    → J (suc l) i ≡ Some (join a b)
given_parent t J closed l i a b p q =
    let right : IsTreePlace (tree_height t.length) l (2 * i + 1) = closed.in_tree l (2 * i + 1) b q in
    let below : l < tree_height t.length = below_root l (tree_height t.length) i right in
    let half : 2 * i / 2 ≡ i = omega arith in
    let fam : IsFamily J l i = subst (IsFamily J l) half (closed.families l (2 * i) a p below) in
    fam.parent_known ∙ ap Some (ap₂ join (same_Some _ _ (sym fam.left_known ∙ p)) (same_Some _ _ (sym fam.right_known ∙ q)))
  where
    below_root : (l h i : ℕ) → IsTreePlace h l (2 * i + 1) → l < h
    below_root l h i at = elim (eq-or-lt_of_le at.0) [
      | inl same ↦ let e : h - l ≡ 0 = omega arith in absurd (omega (arith, subst (λ k. 2 * i + 1 < 2 ^ k) e at.1))
      | inr less ↦ less
    ]

-- what is claimed from what a closed tree has is in that tree
pub said-claims : (t : TreeRoot) (J : PartialTree) (ask : Ask) (hashes : List Hash) → IsClosed t J → IsHeldBy J ask hashes
    → (l i : ℕ) (v : Hash) → claims ask hashes l i ≡ Some v → J l i ≡ Some v
said-claims t J ask hashes closed said zero i v e = said zero i v (sym (claims-zero ask hashes i) ∙ e)
said-claims t J ask hashes closed said (suc l) i v e = elim (claims-read ask hashes l i v e) [
  | inl g ↦ said (suc l) i v g
  | inr (none, (a, b, p, q, w)) ↦
      let left : J l (2 * i) ≡ Some a = said-claims t J ask hashes closed said l (2 * i) a p in
      let right : J l (2 * i + 1) ≡ Some b = said-claims t J ask hashes closed said l (2 * i + 1) b q in
      given_parent t J closed l i a b left right ∙ ap Some (sym w)
]

-- a message with what a closed tree J has, whose top K knows, is accepted, or a collision is named
pub stored_or_collision : (t : TreeRoot) (J K : PartialTree) (ask : Ask) (hashes : List Hash) → IsClosed t J → IsClosed t K
    → GoodRange (tree_height t.length) ask → GoodCount (tree_height t.length) ask hashes → IsHeldBy J ask hashes
    → ((v : Hash) × (K (top_layer ask hashes) (top_index ask hashes) ≡ Some v))
    → IsAccepted t.length K ask hashes ⊎ Collision J K
stored_or_collision t J K ask hashes closed_J closed_K range count said top =
    elim (agreed_or_collision t J K closed_J closed_K) [
      | inl same ↦ inl (record {
        range = range;
        count = count;
        pads = λ l i v e past. closed_J.pads l i v (said l i v e) past;
        top_known = top;
        agrees = λ l i u v p q. sym (same l i v u (said-claims t J ask hashes closed_J said l i v q) p);
      })
      | inr collision ↦ inr collision
    ]
