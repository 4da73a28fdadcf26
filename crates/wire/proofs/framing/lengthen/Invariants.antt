use Rattle.std.proofs.Common.{◌≡◌, ◌≤◌, ◌-◌, length}
use Rattle.std.specs.Prelude.{vec_capacity}
use Rattle.wire.specs.Meaning.{max_kept}
use Rattle.wire.proofs.framing.lengthen.Given as goal

abbrev pub invariant-zeros : goal.invariant-zeros
invariant-zeros l = record {
  capacity : vec_capacity l.kept ≡ vec_capacity l.fn.kept;
  bounded : length l.fn.kept.items ≤ max_kept → length l.kept.items ≤ max_kept;
}

abbrev pub decreases-zeros : goal.decreases-zeros
decreases-zeros l = max_kept - length l.kept.items
