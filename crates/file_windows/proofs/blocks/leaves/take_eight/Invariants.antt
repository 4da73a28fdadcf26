use Rattle.std.proofs.Common.{◌≡◌, ℕ, ◌<◌, length, slice_index}
use Rattle.file_windows.specs.Window.{IsLeafOfBlock}
use Rattle.file_windows.proofs.blocks.leaves.take_eight.Given as goal

abbrev pub invariant-lanes : goal.invariant-lanes
invariant-lanes l = (length l.leaves ≡ length l.fn.leaves)
    × ((j : ℕ) → j < l.j → IsLeafOfBlock l.buffer l.starts l.sizes l.leaves (slice_index l.blocks j))
    × ((i : ℕ) → IsLeafOfBlock l.buffer l.starts l.sizes l.fn.leaves i → IsLeafOfBlock l.buffer l.starts l.sizes l.leaves i)
