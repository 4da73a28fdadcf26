use Rattle.session.proofs.SafeSteps.{block-is, block-keeps, block-taken}
use Rattle.session.proofs.session.SessionOf.take_block.Goals as goal

pub returns-clause-verified_is_the_block : goal.returns-clause-verified_is_the_block
returns-clause-verified_is_the_block g c =
    block-is c.args.self.now c.recall_closed_trees.ensures c.args.index c.args.begin c.args.block.now c.mark_block.result c.mark_block.new.self
    c.mark_block.ensures.verified

pub returns-clause-keeps_known : goal.returns-clause-keeps_known
returns-clause-keeps_known g c =
    block-keeps c.args.self.now c.args.index c.args.begin c.args.block.now c.mark_block.result c.mark_block.new.self
    c.mark_block.ensures.verified c.mark_block.ensures.refused

pub returns-clause-verifies_true_block : goal.returns-clause-verifies_true_block
returns-clause-verifies_true_block g c =
    block-taken c.args.self.now c.recall_closed_trees.ensures c.args.index c.args.begin c.args.block.now c.mark_block.result c.mark_block.new.self
    c.mark_block.ensures.verified c.mark_block.ensures.refused
