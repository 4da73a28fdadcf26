use Rattle.std.proofs.Common.{ap, ◌∙◌}
use Rattle.hashtree.specs.Tree.{block_count}
use Rattle.partial_tree.specs.Kept.{info_of}
use Rattle.session.proofs.KeptTrees.{tree_of_number}
use Rattle.session.proofs.session.SessionOf.blocks.Goals as goal

pub returns-clause-value : goal.returns-clause-value
returns-clause-value g c =
    let a = c.index.result.now in
    let x = tree_of_number c.self.inside.asks _ _ c.self.invariant _ c.self.view_is c.args.tree c.requires a c.index.ensures in
    (info_of a, x.is_tree.tree_is, c.blocks-2.ensures.value ∙ ap block_count c.shape.ensures)
