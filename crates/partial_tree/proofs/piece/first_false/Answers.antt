use Rattle.std.proofs.Common.{◌+◌, ◌≡◌, Some, inl, inr, ap, ◌∙◌, subst, arith}
use Rattle.std.proofs.lemmas.Bool.{cases_lt}
use Rattle.sha2.specs.Sha256.{sha256}
use Rattle.hashtree.specs.Tree.{block}
use Rattle.node_maps.specs.Known.{look}
use Rattle.partial_tree.proofs.piece.first_false.Goals as goal

pub numbers-preserved : goal.numbers-preserved
numbers-preserved g c = record {
  so_far = λ k low. elim (cases_lt k c.numbers.j) [
    | inl less ↦ c.numbers.invariant.so_far k less
    | inr last ↦
        let same : c.numbers.j ≡ k = omega (arith, low, last) in
        subst (λ n. look (g.N.NodeMap.seen c.args.nodes.now).known 0 (c.args.first + n) ≡ Some (sha256 (block c.args.bytes.now n))) same
        (c.has_leaf.ensures.0 c.if-not-has_leaf.false ∙ ap Some c.digest-digest.ensures.value)
  ];
  digests = c.digest-digest.ensures.known;
}
