-- A tree that a claim or a whole layer is joined to stays good.
use Rattle.std.proofs.Common.{◌≡◌, ℕ, List, sym, ap, ◌∙◌, subst}
use Rattle.std.specs.FinSet as set
use Rattle.node_maps.specs.Digest.{Hash}
use Rattle.partial_tree.specs.TreeRoot.{TreeRoot}
use Rattle.node_maps.specs.Places.{PartialTree, IsKnown}
use Rattle.partial_tree.specs.Closed.{IsClosed}
use Rattle.partial_tree.specs.Claims.{AreHashes, joined}
use Rattle.partial_tree.specs.Fill.{fill_claims}
use Rattle.node_maps.specs.Known.{look}
use Rattle.partial_tree.specs.Kept.{KeptTree, info_of, IsGoodTree, TreeJoins, TreeTakesLayer}
use Rattle.partial_tree.proofs.Joining.{joined-keeps}
use Rattle.partial_tree.proofs.WholeLayers.{fill-closed}

pub closed-same : (t : TreeRoot) (K L : PartialTree) → ((l i : ℕ) → K l i ≡ L l i) → IsClosed t K → IsClosed t L
closed-same t K L same closed = subst (IsClosed t) (λ i l j. same l j i) closed

pub good_joined : (a b : KeptTree) (C : PartialTree) (c : ℕ) → IsGoodTree a
    → IsClosed (info_of a) (joined (look a.state.known) C) → TreeJoins C a c b → IsGoodTree b
good_joined a b C c good closed (joins, rest) = record {
  closed = subst (λ t. IsClosed t (look b.state.known)) (sym (ap info_of rest))
      (closed-same (info_of a) (joined (look a.state.known) C) (look b.state.known) (λ y i. sym (joins.joined_is y i)) closed);
  marks = λ i e.
      let known : IsKnown (look a.state.known) 0 i = good.marks i
      (ap (λ (t : KeptTree). set.contains t.state.marked i) (sym rest) ∙ e) in
      (known.0, joins.joined_is 0 i ∙ joined-keeps (look a.state.known) C 0 i known.0 known.1);
}

pub good_filled : (a b : KeptTree) (layer : ℕ) (hashes : List Hash) (c : ℕ) → IsGoodTree a
    → AreHashes hashes → TreeTakesLayer a layer hashes c b → IsGoodTree b
good_filled a b layer hashes c good sizes ((ok, joins), rest) =
    good_joined a b (fill_claims a.length layer hashes) c good
    (fill-closed (info_of a) (look a.state.known) layer hashes ok.layer_inside ok.right_count
    good.closed sizes ok.agrees) (joins, rest)
