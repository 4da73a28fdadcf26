use Rattle.std.proofs.Common.{refl}
use Rattle.partial_tree.proofs.EightDigests.{none_there}
use Rattle.partial_tree.proofs.block_digests.BlockDigests.new.Goals as goal

pub returns : goal.returns
returns c = λ bytes. none_there _ bytes refl
