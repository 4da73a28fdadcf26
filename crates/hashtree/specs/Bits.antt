-- A row of bits in bytes, as a bitfield has it (BEP 3): bit 0 is the highest of the first byte.
use Rattle.std.specs.Prelude.{◌≡◌, ◌↔◌, ℕ, ◌-◌, ◌*◌, ◌/◌, ◌%◌, ◌<◌, ◌≤◌, List, [], length, slice_index_or}
use Rattle.std.specs.Int.{bit_at}

-- the bit with this number, 0 or 1; past the end it is 0
abbrev pub bit_of : List ℕ → ℕ → ℕ
bit_of bits k = bit_at (slice_index_or bits (k / 8) 0) (7 - k % 8)

-- no bit is set
abbrev pub AreClear : List ℕ → Type 0
AreClear bits = (k : ℕ) → bit_of bits k ≡ 0

-- the bits that there are tell which of these nodes are the given hashes; those past the last node
-- are clear
abbrev pub AreMarked : List ℕ → List (List ℕ) → List (List ℕ) → Type 0
AreMarked bits hashes nodes = (k : ℕ) → k < 8 * length bits
    → (bit_of bits k ≡ 1)
    ↔ ((k < length nodes) × (slice_index_or nodes k [] ≡ slice_index_or hashes k []))

-- all bits from one number up to another are set
abbrev pub AreSet : List ℕ → ℕ → ℕ → Type 0
AreSet bits from to = (k : ℕ) → from ≤ k → k < to → bit_of bits k ≡ 1

-- of the bits from one number up to another, those from `first` up to `end` are the first run of
-- bits that are not set
pub record IsClearRun (bits : List ℕ) (from to first end : ℕ) : Type 0 where
  pub low : from ≤ first
  pub some : first < end
  pub within : end ≤ to
  pub before : AreSet bits from first
  pub clear : (k : ℕ) → first ≤ k → k < end → bit_of bits k ≡ 1 → ⊥
  pub ends : end < to → bit_of bits end ≡ 1
