use Rattle.std.proofs.Common.{◌-◌, ◌≤◌, length, take}
use Rattle.wire.specs.Reading.{GaveFaultless}
use Rattle.conversions.proofs.converting.read_front.Given as goal

abbrev pub invariant-reads : goal.invariant-reads
invariant-reads g l = record {
  within : l.held ≤ length l.buffer;
  gave : GaveFaultless (g.R.Source.seen l.fn.source) (g.R.Source.seen l.source) (take l.held l.buffer);
}

abbrev pub decreases-reads : goal.decreases-reads
decreases-reads g l = 8 - l.held
