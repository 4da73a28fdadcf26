-- SHA-1 of several messages side by side, as their parts come.
use Rattle.std.specs.Prelude.{◌≡◌, ℕ, ◌-◌, ◌/◌, ◌%◌, ◌^◌, length, List, [], ◌∷◌, ◌++◌, replicate, slice_index}
pub use Rattle.lanes.specs.Lanes.{bytes_at}
use Rattle.lanes.specs.Lanes.{word_in}
use Rattle.sha1.specs.Sha1.{hash_after}
use Rattle.sha1_lanes.specs.declared.batch.Batch.{Batch}
use Rattle.sha1_lanes.specs.declared.values.Values.{Values}

-- the message of this size at this byte of a buffer, filled up with zeros to this length
abbrev pub filled_at : List ℕ → ℕ → ℕ → ℕ → List ℕ
filled_at bytes start size length = bytes_at bytes start size ++ replicate (length - size) 0

-- what message j has in the first five vectors: its hash value, or its working variables
abbrev pub state_in : ℕ → List (List ℕ) → List ℕ
state_in j x = word_in x 0 j ∷ word_in x 1 j ∷ word_in x 2 j ∷ word_in x 3 j ∷ word_in x 4 j ∷ []

-- the hash value of message j
abbrev pub value_in : ℕ → Values → List ℕ
value_in j s =
    slice_index s.a j ∷ slice_index s.b j ∷ slice_index s.c j
    ∷ slice_index s.d j ∷ slice_index s.e j ∷ []

-- the hash value after a message of whole blocks, before its padding
abbrev pub hash_value_of : List ℕ → List ℕ
hash_value_of m = hash_after m (length m / 64)

-- this much of message j, whole blocks, was taken in
pub record HasTaken (s : Batch) (j : ℕ) (m : List ℕ) : Type 0 where
  pub length_is : s.length ≡ length m % 2 ^ 64
  pub whole : length m % 64 ≡ 0
  pub value_is : value_in j s.values ≡ hash_value_of m
