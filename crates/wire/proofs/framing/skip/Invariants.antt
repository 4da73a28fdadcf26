use Rattle.std.proofs.Common.{◌≡◌, ℕ, ◌+◌, List, length}
use Rattle.wire.specs.Reading.{GaveFaultless}
use Rattle.wire.proofs.framing.skip.Given as goal

abbrev pub invariant-parts : goal.invariant-parts
invariant-parts g l = record {
  gave : (bytes : List ℕ) × GaveFaultless (g.R.Source.seen l.fn.source) (g.R.Source.seen l.source) bytes × (length bytes + l.left ≡ l.fn.count);
}

abbrev pub decreases-parts : goal.decreases-parts
decreases-parts g l = l.left
