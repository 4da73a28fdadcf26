use Rattle.std.proofs.Common.{◌≡◌}
use Rattle.replays.specs.Held.{work}
use Rattle.replays.proofs.Falling.{weight}
use Rattle.replays.proofs.SaidAll.{InSettling}
use Rattle.replays.proofs.settlings.tell_settled.Given as goal

-- some was settled and told
abbrev pub invariant-settlings : goal.invariant-settlings
invariant-settlings g l = record {
  torrent : l.session.torrent ≡ l.fn.session.torrent;
  tree : l.pieces.tree ≡ l.touched.tree;
  so_far : InSettling l.touched.file (work l.fn.session l.fn.held l.touched.pieces) (work l.session l.held l.pieces) g.L.LineSink.spelled l.number
      (g.L.LineSink.seen l.fn.out) (g.L.LineSink.seen l.out) l.fn.outcome l.outcome;
}

abbrev pub decreases-settlings : goal.decreases-settlings
decreases-settlings g l = weight l.held l.pieces
