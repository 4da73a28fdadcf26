use Rattle.std.proofs.Common.{rules}
use Rattle.partial_tree.proofs.block_digests.BlockDigests.get.Goals as goal

pub returns-then-self-number : goal.returns-then-self-number
returns-then-self-number c = search rules
