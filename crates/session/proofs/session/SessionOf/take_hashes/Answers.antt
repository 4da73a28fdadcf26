use Rattle.session.proofs.SafeSteps.{hashes-stored, hashes-keep, answers-stored}
use Rattle.session.proofs.OneGap.{wanted-closes}
use Rattle.session.proofs.session.SessionOf.take_hashes.Goals as goal

pub returns-clause-keeps_known : goal.returns-clause-keeps_known
returns-clause-keeps_known g c =
    hashes-keep c.args.self.now c.args.ask.now c.args.hashes c.join_hashes.result c.join_hashes.new.self
    c.join_hashes.ensures.stored c.join_hashes.ensures.refused

pub returns-clause-stores_true_hashes : goal.returns-clause-stores_true_hashes
returns-clause-stores_true_hashes g c =
    hashes-stored c.args.self.now c.recall_closed_trees.ensures c.recall_distinct_roots.ensures c.args.ask.now c.args.hashes.now c.join_hashes.result
    c.join_hashes.new.self c.join_hashes.ensures.stored c.join_hashes.ensures.refused

pub returns-clause-stores_answers : goal.returns-clause-stores_answers
returns-clause-stores_answers g c =
    answers-stored c.args.self.now c.recall_closed_trees.ensures c.recall_distinct_roots.ensures c.args.ask.now c.args.hashes.now c.join_hashes.result
    c.join_hashes.new.self c.join_hashes.ensures.stored c.join_hashes.ensures.refused

pub returns-clause-closes_one_gap : goal.returns-clause-closes_one_gap
returns-clause-closes_one_gap g c =
    wanted-closes c.args.self.now c.recall_closed_trees.ensures c.recall_distinct_roots.ensures c.args.ask.now c.args.hashes.now c.join_hashes.result
    c.join_hashes.new.self c.join_hashes.ensures.stored c.join_hashes.ensures.refused
