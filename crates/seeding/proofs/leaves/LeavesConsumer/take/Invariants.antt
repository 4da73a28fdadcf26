use Rattle.std.proofs.Common.{length}
use Rattle.hashtree.specs.Parts.{TakesFront, rest_of}
use Rattle.seeding.specs.Leaves.{Pushes}
use Rattle.seeding.proofs.leaves.LeavesConsumer.take.Given as goal

abbrev pub invariant-parts : goal.invariant-parts
invariant-parts g l = TakesFront Pushes l.fn.self l.part l.self (rest_of l.parts)

abbrev pub decreases-parts : goal.decreases-parts
decreases-parts g l = length (rest_of l.parts)
