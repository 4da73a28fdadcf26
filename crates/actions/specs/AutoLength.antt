-- The piece length of a new torrent whose pieces are as long as its files need.
use Rattle.std.specs.Prelude.{ℕ, ◌≤◌, ◌<◌, ◌*◌, ◌/◌}
use Rattle.std.specs.Int.{IsPowerOfTwo}

-- The smallest power of two from 16 KiB to 16 MiB of which 2,048 hold this many bytes, and 16 MiB
-- if none does.
pub record IsAutoLength (total length : ℕ) : Type 0 where
  pub power : IsPowerOfTwo length
  pub least : 16384 ≤ length
  pub most : length ≤ 16777216
  pub enough : length < 16777216 → total ≤ 2048 * length
  pub smallest : 16384 < length → 2048 * (length / 2) < total
