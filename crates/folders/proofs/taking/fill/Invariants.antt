use Rattle.std.proofs.Common.{◌≤◌, ◌-◌, length, take}
use Rattle.wire.specs.Reading.{GaveFaultless}
use Rattle.folders.proofs.taking.fill.Given as goal

abbrev pub invariant-reads : goal.invariant-reads
invariant-reads g l = record {
  within : l.filled ≤ length l.buffer;
  gave : GaveFaultless (g.F.Source.seen l.fn.source) (g.F.Source.seen l.source) (take l.filled l.buffer);
}

abbrev pub decreases-reads : goal.decreases-reads
decreases-reads g l = length l.initial.buffer - l.filled
