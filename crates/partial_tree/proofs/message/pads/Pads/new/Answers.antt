use Rattle.std.proofs.Common.{arith}
use Rattle.partial_tree.proofs.message.pads.Pads.new.Goals as goal

pub invariant_of-result : goal.invariant_of-result
invariant_of-result c = record { low = omega arith; is_zero_hash = c.zero.ensures }
