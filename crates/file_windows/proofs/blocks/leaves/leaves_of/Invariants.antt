use Rattle.std.proofs.Common.{◌≡◌, ℕ, ◌*◌, ◌<◌, length, slice_index}
use Rattle.file_windows.specs.Window.{IsLeafOfBlock}
use Rattle.file_windows.proofs.blocks.leaves.leaves_of.Given as goal

abbrev pub invariant-turns : goal.invariant-turns
invariant-turns l = (length l.leaves ≡ length l.fn.leaves)
    × ((k : ℕ) → k < 8 * l.turn → k < length l.leaves → IsLeafOfBlock l.buffer l.starts l.sizes l.leaves (slice_index l.order k))
