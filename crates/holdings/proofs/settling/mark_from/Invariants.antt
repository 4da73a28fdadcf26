use Rattle.std.proofs.Common.{◌≡◌}
use Rattle.holdings.specs.Settling.{AreBlocksMarked}
use Rattle.holdings.proofs.settling.mark_from.Given as goal

-- the blocks so far are marked
abbrev pub invariant-each : goal.invariant-each
invariant-each g l = record {
  marked : AreBlocksMarked l.fn.session l.piece.tree l.piece.first l.fn.cells l.from l.count l.session l.cells;
  torrent : l.session.torrent ≡ l.fn.session.torrent;
}
