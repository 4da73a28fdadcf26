use Rattle.std.proofs.Common.{arith}
use Rattle.session.proofs.KeptTrees.{number_within}
use Rattle.session.proofs.MessageBlocks.{has-low}
use Rattle.session.proofs.session.SessionOf.knows_eight.Goals as goal

pub index-requires : goal.index-requires
index-requires g c =
    omega (arith, c.self.inside.trees.ok, number_within c.self.inside.asks _ _ c.self.invariant _ c.self.view_is _ c.tree_of_block-tree.ensures.within)

pub knows_leaves-requires : goal.knows_leaves-requires
knows_leaves-requires g c = has-low _ c.tree_of_block-tree.ensures.sound c.args.file c.args.block c.requires
