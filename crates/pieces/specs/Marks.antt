-- What the bits of a row of pieces tell of bytes that may end within it (BEP 52, "piece layers").
use Rattle.std.specs.Prelude.{◌≡◌, ◌↔◌, ℕ, ◌+◌, ◌*◌, ◌^◌, ◌<◌, ◌≤◌, [], List, length, slice_index_or}
use Rattle.hashtree.specs.Bits.{bit_of}
use Rattle.hashtree.specs.Pieces.{piece_nodes}

-- the bits tell which pieces of these bytes are whole, and have the node that is given
abbrev pub AreMarkedWhole : List ℕ → List (List ℕ) → ℕ → List ℕ → Type 0
AreMarkedWhole good hashes layer bytes = (k : ℕ) → k < 8 * length good
    → (bit_of good k ≡ 1) ↔ ((16384 * ((k + 1) * 2 ^ layer) ≤ length bytes)
    × (slice_index_or (piece_nodes layer bytes) k [] ≡ slice_index_or hashes k []))
