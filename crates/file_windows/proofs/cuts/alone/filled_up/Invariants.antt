use Rattle.std.proofs.Common.{ℕ, ◌-◌, ◌≤◌, ◌++◌, List, replicate}
use Rattle.sha1.specs.Sha1.{Holds}
use Rattle.file_windows.proofs.cuts.alone.filled_up.Given as goal

abbrev pub invariant-zeros : goal.invariant-zeros
invariant-zeros l = record {
  begun : l.size ≤ l.filled;
  bound : l.filled ≤ l.piece_length;
  held : (cut : List ℕ) → Holds l.fn.hasher cut → Holds l.hasher (cut ++ replicate (l.filled - l.size) 0);
}

abbrev pub decreases-zeros : goal.decreases-zeros
decreases-zeros l = l.piece_length - l.filled
