use Rattle.std.proofs.Common.{subst}
use Rattle.node_maps.specs.Digest.{AreBytes}
use Rattle.partial_tree.proofs.Digests as digests
use Rattle.partial_tree.proofs.bytes.recall_hashes.Goals as goal

pub returns : goal.returns
returns c = digests.are_hashes c.args.hashes.now c.have_sizes.ensures (subst AreBytes c.as_flattened.ensures.value c.recall_bytes.ensures)
