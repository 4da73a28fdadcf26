-- A cut in each lane, whose bytes are taken from one place to another.
use Rattle.std.specs.Prelude.{ℕ, ◌*◌, ◌/◌, ◌<◌, List, take, slice_index}
use Rattle.lanes.specs.declared.words.TheConstants.{LANES}
use Rattle.sha1_lanes.specs.Batches.{HasTaken, filled_at}
use Rattle.sha1_lanes.specs.declared.batch.Batch.{Batch}
use Rattle.file_windows.specs.Digests.{IsOwnDigest}

-- where the whole blocks of a cut of this size end
abbrev pub end_of : ℕ → ℕ
end_of size = 64 * (size / 64)

-- of each cut, filled up with zeros to this length, the bytes in front of this one were taken
abbrev pub HaveTaken : Batch → List ℕ → List ℕ → List ℕ → ℕ → ℕ → Type 0
HaveTaken batch bytes starts sizes whole at = (j : ℕ) → j < LANES → HasTaken batch j
    (take at (filled_at bytes (slice_index starts j) (slice_index sizes j) whole))

-- the digest of each cut whose whole blocks end in front of this byte is known
abbrev pub HaveEnded : List ℕ → List ℕ → List ℕ → List (List ℕ) → ℕ → Type 0
HaveEnded bytes starts sizes own at = (j : ℕ) → j < LANES
    → end_of (slice_index sizes j) < at → IsOwnDigest bytes starts sizes own j
