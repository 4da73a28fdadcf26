use Rattle.sha1_lanes.specs.declared.filled.TheConstants.{ROW}
use Rattle.std.proofs.Common.{◌≡◌, ℕ, ◌+◌, ◌*◌, ◌<◌, length, slice_index}
use Rattle.sha1_lanes.proofs.filled.put_filled_block.Given as goal

abbrev pub invariant-bytes : goal.invariant-bytes
invariant-bytes l = (length l.row ≡ ROW)
    × ((i : ℕ) → i < l.i → slice_index l.row (64 * l.place + i) ≡ slice_index l.message (l.at + i))
    × ((i : ℕ) → i < 64 * l.place → slice_index l.row i ≡ slice_index l.fn.row i)
