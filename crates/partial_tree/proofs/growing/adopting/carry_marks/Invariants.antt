use Rattle.std.proofs.Common.{◌≡◌, ℕ, ltb, ◌&&◌}
use Rattle.std.specs.FinSet as set
use Rattle.node_maps.specs.Nodes.{with_marks}
use Rattle.partial_tree.proofs.growing.adopting.carry_marks.Given as goal

-- only the marks have changed
abbrev pub invariant-leaves : goal.invariant-leaves
invariant-leaves g l =
    let M = g.N.NodeMap in
    record {
      seen : M.seen l.new ≡ with_marks (M.seen l.fn.new) (M.seen l.new).marked;
      held : M.held l.new ≡ M.held l.fn.new;
      marked : (i : ℕ) → set.contains (M.seen l.new).marked i ≡ (ltb i l.index && set.contains (M.seen l.fn.old).marked i);
    }
