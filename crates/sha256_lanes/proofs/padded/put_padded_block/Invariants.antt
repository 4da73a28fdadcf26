use Rattle.sha256_lanes.specs.declared.padded.TheConstants.{ROW}
use Rattle.std.proofs.Common.{◌≡◌, ℕ, ◌+◌, ◌*◌, ◌<◌, length, slice_index}
use Rattle.sha2.specs.Sha256.{padded_message}
use Rattle.sha256_lanes.proofs.padded.put_padded_block.Given as goal

abbrev pub invariant-bytes : goal.invariant-bytes
invariant-bytes l = (length l.row ≡ ROW)
    × ((i : ℕ) → i < l.i → slice_index l.row (64 * l.place + i) ≡ slice_index (padded_message l.message) (64 * l.block + i))
    × ((i : ℕ) → i < 64 * l.place → slice_index l.row i ≡ slice_index l.fn.row i)
