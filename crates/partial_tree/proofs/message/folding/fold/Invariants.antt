use Rattle.std.proofs.Common.{◌≡◌, Some}
use Rattle.partial_tree.specs.Evidence.{claimed_by, node_over_base}
use Rattle.partial_tree.specs.Visits.{VisitsRow}
use Rattle.partial_tree.proofs.Uncles.{row_over}
use Rattle.partial_tree.proofs.message.folding.fold.Given as goal

-- all under the node over the base range is visited
abbrev pub invariant-uncles : goal.invariant-uncles
invariant-uncles g l =
    let C = claimed_by l.fn.evidence in
    record {
      value : C l.below (node_over_base l.fn.evidence l.below) ≡ Some l.hash;
      visited : VisitsRow g.V.Visitor.visits C (row_over l.fn.evidence l.below) l.fn.visitor l.visitor;
    }
