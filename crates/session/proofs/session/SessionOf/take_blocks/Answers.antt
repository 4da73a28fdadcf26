use Rattle.session.proofs.SafeSteps.{blocks-are, blocks-keep, blocks-true}
use Rattle.session.proofs.session.SessionOf.take_blocks.Goals as goal

pub returns-clause-taken : goal.returns-clause-taken
returns-clause-taken g c = c.mark_blocks.ensures.taken

pub returns-clause-refused : goal.returns-clause-refused
returns-clause-refused g c = c.mark_blocks.ensures.refused

pub returns-clause-verified_are_the_blocks : goal.returns-clause-verified_are_the_blocks
returns-clause-verified_are_the_blocks g c =
    blocks-are c.args.self.now c.recall_closed_trees.ensures c.args.index c.args.begin c.args.bytes.now c.mark_blocks.result c.mark_blocks.new.self
    c.mark_blocks.ensures.taken

pub returns-clause-keeps_known : goal.returns-clause-keeps_known
returns-clause-keeps_known g c =
    blocks-keep c.args.self.now c.args.index c.args.begin c.args.bytes.now c.mark_blocks.result c.mark_blocks.new.self
    c.mark_blocks.ensures.taken c.mark_blocks.ensures.refused

pub returns-clause-verifies_true_blocks : goal.returns-clause-verifies_true_blocks
returns-clause-verifies_true_blocks g c =
    blocks-true c.args.self.now c.recall_closed_trees.ensures c.args.index c.args.begin c.args.bytes.now c.mark_blocks.result c.mark_blocks.new.self
    c.mark_blocks.ensures.taken
