use Rattle.std.proofs.Common.{◌≤◌, ◌-◌, length, take}
use Rattle.wire.specs.Reading.{GaveFaultless}
use Rattle.wire.proofs.framing.read_exact.Given as goal

abbrev pub invariant-reads : goal.invariant-reads
invariant-reads g l = record {
  within : l.filled ≤ length l.buf;
  gave : GaveFaultless (g.R.Source.seen l.fn.source) (g.R.Source.seen l.source) (take l.filled l.buf);
}

abbrev pub decreases-reads : goal.decreases-reads
decreases-reads g l = length l.initial.buf - l.filled
