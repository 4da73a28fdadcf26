use Rattle.std.proofs.Common.{◌≡◌, ℕ, ◌+◌, ◌<◌, length, slice_index}
use Rattle.file_windows.proofs.blocks.leaves.next_eight.Given as goal

abbrev pub invariant-lanes : goal.invariant-lanes
invariant-lanes l = (length l.found ≡ 8)
    × ((j : ℕ) → j < l.j → slice_index l.found j < l.count)
    × ((j : ℕ) → j < l.j → l.from + j < l.count → slice_index l.found j ≡ slice_index l.order (l.from + j))
