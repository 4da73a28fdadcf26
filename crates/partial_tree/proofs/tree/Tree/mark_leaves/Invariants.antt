use Rattle.partial_tree.specs.Kept.{IsGoodTree}
use Rattle.partial_tree.specs.LeafRows.{TreeMarksRun}
use Rattle.partial_tree.proofs.tree.Tree.mark_leaves.Given as goal

-- the leaves so far are marked
abbrev pub invariant-leaves : goal.invariant-leaves
invariant-leaves g l = record {
  marked : TreeMarksRun l.fn.self l.first l.j l.self;
  good : IsGoodTree l.self;
}
