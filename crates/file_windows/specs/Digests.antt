-- Cuts in a buffer, as they are and filled up with zeros to the piece length, and their digests.
use Rattle.std.specs.Prelude.{◌≡◌, ℕ, List, [], slice_index, slice_index_or}
use Rattle.sha1.specs.Sha1.{sha1}
use Rattle.sha1_lanes.specs.Batches.{bytes_at, filled_at}

-- digest i is that of the i-th cut
abbrev pub IsDigest : List ℕ → ℕ → List ℕ → List ℕ → List (List ℕ) → ℕ → Type 0
IsDigest bytes piece_length starts sizes digests i = slice_index_or digests i []
    ≡ sha1 (filled_at bytes (slice_index starts i) (slice_index sizes i) piece_length)

-- digest i is that of the i-th cut's own bytes
abbrev pub IsOwnDigest : List ℕ → List ℕ → List ℕ → List (List ℕ) → ℕ → Type 0
IsOwnDigest bytes starts sizes own i = slice_index_or own i []
    ≡ sha1 (bytes_at bytes (slice_index starts i) (slice_index sizes i))
