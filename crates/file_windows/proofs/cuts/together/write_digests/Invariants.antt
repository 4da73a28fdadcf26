use Rattle.std.proofs.Common.{◌≡◌, ℕ, ◌*◌, ◌<◌, length}
use Rattle.lanes.specs.declared.words.TheConstants.{LANES}
use Rattle.file_windows.specs.Digests.{IsDigest}
use Rattle.file_windows.proofs.cuts.together.write_digests.Given as goal

abbrev pub invariant-turns : goal.invariant-turns
invariant-turns l = (length l.digests ≡ length l.fn.digests)
    × ((i : ℕ) → i < LANES * l.turn → i < length l.digests → IsDigest l.buffer l.piece_length l.starts l.sizes l.digests i)
