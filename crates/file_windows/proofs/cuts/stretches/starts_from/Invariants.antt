use Rattle.std.proofs.Common.{◌≡◌, ℕ, ◌+◌, ◌<◌, length, min, slice_index}
use Rattle.lanes.specs.declared.words.TheConstants.{LANES}
use Rattle.file_windows.proofs.cuts.stretches.starts_from.Given as goal

abbrev pub invariant-lanes : goal.invariant-lanes
invariant-lanes l = (length l.found ≡ LANES)
    × ((j : ℕ) → j < l.j → slice_index l.found j ≡ slice_index l.starts j + min l.from (slice_index l.sizes j))
