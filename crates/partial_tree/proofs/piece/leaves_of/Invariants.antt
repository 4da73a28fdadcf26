use Rattle.std.proofs.Common.{◌≡◌, vec_len, vec_capacity}
use Rattle.hashtree.specs.Tree.{block_hashes}
use Rattle.partial_tree.specs.BlockDigests.{AreDigests}
use Rattle.partial_tree.proofs.piece.leaves_of.Given as goal

-- the leaves so far, and room for the rest
abbrev pub invariant-numbers : goal.invariant-numbers
invariant-numbers l = record {
  so_far : l.leaves.items ≡ block_hashes l.bytes l.number;
  stated : vec_len l.leaves ≡ l.number;
  room : vec_capacity l.leaves ≡ l.count;
  digests : AreDigests l.digests l.bytes;
}
