use Rattle.std.proofs.Common.{◌-◌}
use Rattle.folders.proofs.TakenParts.{IsTaking}
use Rattle.folders.proofs.taking.take_exactly.Given as goal

abbrev pub invariant-parts : goal.invariant-parts
invariant-parts g l = IsTaking g.T.Consumer.took g.T.Consumer.has_room (g.F.Source.seen l.fn.source) (g.F.Source.seen l.source) l.size l.fn.consumer
    l.consumer l.count l.buffer

abbrev pub decreases-parts : goal.decreases-parts
decreases-parts g l = l.size - l.count
