use Rattle.std.proofs.Common.{◌≡◌, ℕ, ◌<◌, length, slice_index}
use Rattle.file_windows.proofs.blocks.leaves.chosen.Given as goal

abbrev pub invariant-lanes : goal.invariant-lanes
invariant-lanes l = (length l.found ≡ 8)
    × ((j : ℕ) → j < l.j → slice_index l.found j ≡ slice_index l.values (slice_index l.places j))
