use Rattle.holdings.specs.Cells.{AreUnknown}
use Rattle.holdings.proofs.settling.first_known.Given as goal

-- none of the blocks so far is held and known
abbrev pub invariant-each : goal.invariant-each
invariant-each g l = AreUnknown l.session l.piece.tree l.piece.first l.block l.cells
