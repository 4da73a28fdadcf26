use Rattle.std.proofs.Common.{◌≡◌, ℕ, ◌+◌, ◌<◌, Some}
use Rattle.sha2.specs.Sha256.{sha256}
use Rattle.hashtree.specs.Tree.{block}
use Rattle.node_maps.specs.Known.{look}
use Rattle.partial_tree.specs.BlockDigests.{AreDigests}
use Rattle.partial_tree.proofs.piece.first_false.Given as goal

-- the blocks so far have their known leaves
abbrev pub invariant-numbers : goal.invariant-numbers
invariant-numbers g l = record {
  so_far : (k : ℕ) → k < l.j → look (g.N.NodeMap.seen l.nodes).known 0 (l.first + k) ≡ Some (sha256 (block l.bytes k));
  digests : AreDigests l.digests l.bytes;
}
