use Rattle.std.proofs.Common.{◌≡◌, ℕ, ◌+◌, ◌<◌, [], length}
use Rattle.std.specs.Prelude.{slice_index_or}
use Rattle.file_windows.proofs.cuts.both.put_digests.Given as goal

abbrev pub invariant-lanes : goal.invariant-lanes
invariant-lanes l = record {
  count : length l.digests ≡ length l.fn.digests;
  put : (j : ℕ) → j < l.j → slice_index_or l.digests (l.from + j) [] ≡ slice_index_or l.found j [];
  kept : (i : ℕ) → i < l.from → slice_index_or l.digests i [] ≡ slice_index_or l.fn.digests i [];
}
