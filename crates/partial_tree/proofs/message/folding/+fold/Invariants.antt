use Rattle.std.proofs.Common.{◌+◌, ◌*◌}
use Rattle.partial_tree.specs.Evidence.{claimed_by}
use Rattle.partial_tree.specs.Visits.{Visits, places_below}
use Rattle.partial_tree.proofs.VisitedRows.{IsBegun}
use Rattle.partial_tree.proofs.message.folding.+fold.Given as goal

abbrev pub decreases-fold_below : goal.decreases-fold_below
decreases-fold_below g l = 2 * l.row.layer

abbrev pub decreases-fold_row : goal.decreases-fold_row
decreases-fold_row g l = 2 * l.row.layer + 1

-- the places so far are visited, and all below the row
abbrev pub invariant-fold_row-places : goal.invariant-fold_row-places
invariant-fold_row-places g l =
    Visits g.V.Visitor.visits (claimed_by l.fn.evidence) (IsBegun l.fn.row l.j) (places_below l.fn.row + l.j) l.fn.visitor l.visitor
