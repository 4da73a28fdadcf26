use Rattle.std.proofs.Common.{◌≡◌}
use Rattle.partial_tree.proofs.message.pads.Pads.at.Given as goal

abbrev pub invariant-loop-below : goal.invariant-loop-below
invariant-loop-below l = l.self.layer ≡ l.below
