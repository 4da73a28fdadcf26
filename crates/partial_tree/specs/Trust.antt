-- What one trusts who trusts SHA-256, and what it is computed of in trees.
--
-- No function to 32 bytes has another digest for each input. So trust is in the inputs in use,
-- which a test names: those that were ever hashed, say.
use Rattle.std.specs.Prelude.{◌≡◌, ℕ, ◌+◌, ◌*◌, ◌<◌, Bool, true, List, ◌++◌, length, Some}
use Rattle.sha2.specs.Sha256.{sha256}
use Rattle.hashtree.specs.Tree.{block, block_count}
use Rattle.node_maps.specs.Digest.{Hash}
use Rattle.node_maps.specs.Places.{PartialTree}
use Rattle.partial_tree.specs.Closed.{whole}

-- the inputs that pass a test
abbrev pub PassesTest : (List ℕ → Bool) → List ℕ → Type 0
PassesTest test input = test input ≡ true

-- no two different ones of these inputs have one SHA-256 digest
abbrev pub HasNoCollision : (List ℕ → Type 0) → Type 0
HasNoCollision P = (a b : List ℕ) → P a → P b → sha256 a ≡ sha256 b → a ≡ b

-- each two known siblings, joined, are one of these inputs
abbrev pub AreJoinsOf : (List ℕ → Type 0) → PartialTree → Type 0
AreJoinsOf P K = (l j : ℕ) (left right : Hash) → K l (2 * j) ≡ Some left
    → K l (2 * j + 1) ≡ Some right → P (left ++ right)

-- each block of a file is one of these inputs, and so are each two siblings of its whole tree,
-- joined
pub record AreInputsOf (P : List ℕ → Type 0) (f : List ℕ) : Type 0 where
  pub blocks : (i : ℕ) → i < block_count (length f) → P (block f i)
  pub joins : AreJoinsOf P (whole f)
