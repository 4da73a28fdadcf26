-- SHA-256 of several messages side by side.
use Rattle.std.specs.Prelude.{◌≡◌, ℕ, ◌+◌, ◌*◌, ◌/◌, ◌<◌, length, List, [], ◌∷◌, take, drop, slice_index_or}
pub use Rattle.lanes.specs.Lanes.{bytes_at}
use Rattle.lanes.specs.Lanes.{word_in}

-- message j of a row of messages of this size, one after another
abbrev pub message : List ℕ → ℕ → ℕ → List ℕ
message row size j = take size (drop (j * size) row)

-- what message j has in the first eight vectors: its hash value, or its working variables
abbrev pub sha256_state_in : ℕ → List (List ℕ) → List ℕ
sha256_state_in j x =
    word_in x 0 j ∷ word_in x 1 j ∷ word_in x 2 j ∷ word_in x 3 j
    ∷ word_in x 4 j ∷ word_in x 5 j ∷ word_in x 6 j ∷ word_in x 7 j ∷ []

-- each list of the row has 32 bytes
abbrev pub IsRowOfHashes : List (List ℕ) → Type 0
IsRowOfHashes row = (i : ℕ) → i < length row → length (slice_index_or row i []) ≡ 32

-- how many blocks a message of this size has, its padding included
abbrev pub padded_block_count : ℕ → ℕ
padded_block_count size = (size + 8) / 64 + 1
