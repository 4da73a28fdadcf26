use Rattle.session.proofs.OneTree.{gaps-after}
use Rattle.session.proofs.TakenLeaves.{leaves-bring, leaves-keep, leaves-known, true-leaves}
use Rattle.session.proofs.session.SessionOf.take_leaves.Goals as goal

pub returns-clause-known : goal.returns-clause-known
returns-clause-known g c =
    leaves-known c.args.self.now c.args.tree c.args.first c.args.leaves.now c.join_leaves.new.self c.join_leaves.result c.join_leaves.ensures.taken

pub returns-clause-end_pads : goal.returns-clause-end_pads
returns-clause-end_pads g c =
    leaves-bring c.args.self.now c.args.tree c.args.first c.args.leaves.now c.join_leaves.new.self c.join_leaves.result c.join_leaves.ensures.taken

pub returns-clause-keeps_known : goal.returns-clause-keeps_known
returns-clause-keeps_known g c =
    leaves-keep c.args.self.now c.args.tree c.args.first c.args.leaves.now c.join_leaves.new.self c.join_leaves.result c.join_leaves.ensures.taken
    c.join_leaves.ensures.refused

pub returns-clause-gaps : goal.returns-clause-gaps
returns-clause-gaps g c =
    gaps-after c.args.self.now c.join_leaves.new.self
    (leaves-keep c.args.self.now c.args.tree c.args.first c.args.leaves.now c.join_leaves.new.self c.join_leaves.result c.join_leaves.ensures.taken
    c.join_leaves.ensures.refused)

pub returns-clause-takes_true_leaves : goal.returns-clause-takes_true_leaves
returns-clause-takes_true_leaves g c =
    true-leaves c.args.self.now c.recall_closed_trees.ensures c.args.tree c.args.first c.args.leaves.now c.requires.piece c.join_leaves.new.self
    c.join_leaves.result c.join_leaves.ensures.refused
