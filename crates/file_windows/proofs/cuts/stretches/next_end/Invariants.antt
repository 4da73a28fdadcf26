use Rattle.std.proofs.Common.{◌≡◌, ℕ, ◌%◌, ◌<◌, ◌≤◌, slice_index}
use Rattle.file_windows.specs.LaneCuts.{end_of}
use Rattle.file_windows.proofs.cuts.stretches.next_end.Given as goal

abbrev pub invariant-lanes : goal.invariant-lanes
invariant-lanes l = record {
  later : l.at < l.next;
  within : l.next ≤ l.whole;
  whole_blocks : l.next % 64 ≡ 0;
  next : (j : ℕ) → j < l.j → l.at < end_of (slice_index l.sizes j) → l.next ≤ end_of (slice_index l.sizes j);
}
