-- Digests, as lists of 32 bytes.
use Rattle.std.specs.Prelude.{◌≡◌, ℕ, ◌<◌, List, ◌++◌, length}
use Rattle.std.specs.List.{All}
use Rattle.sha2.specs.Sha256.{sha256}

-- a hash, as the list of its numbers; `IsHash` says that they are 32 bytes
abbrev pub Hash : Type 0
Hash = List ℕ

-- each number is a byte
abbrev pub AreBytes : List ℕ → Type 0
AreBytes = All (λ b. b < 256)

-- as many bytes as a SHA-256 digest has
pub record IsHash (h : Hash) : Type 0 where
  pub size : length h ≡ 32
  pub bytes : AreBytes h

-- SHA-256 of two hashes joined, 64 bytes, the left one first (BEP 52, "pieces root"; FIPS 180-4,
-- section 6.2)
abbrev pub join : Hash → Hash → Hash
join left right = sha256 (left ++ right)
