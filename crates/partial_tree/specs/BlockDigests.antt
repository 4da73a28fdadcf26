-- Digests of blocks that stand one after the other in some bytes, made eight at a time.
use Rattle.std.specs.Prelude.{◌≡◌, ℕ, ◌+◌, ◌-◌, ◌<◌, ◌≤◌, List, [], slice_index_or}
use Rattle.sha2.specs.Sha256.{sha256}
use Rattle.hashtree.specs.Tree.{block}
use Rattle.partial_tree.specs.declared.block_digests.BlockDigests.{BlockDigests}

-- the eight hashes before `end` are the digests of these blocks of the bytes
pub record AreDigests (d : BlockDigests) (bytes : List ℕ) : Type 0 where
  pub are : (m : ℕ) → m < d.end → d.end ≤ m + 8
      → slice_index_or d.hashes (m + 8 - d.end) [] ≡ sha256 (block bytes m)
