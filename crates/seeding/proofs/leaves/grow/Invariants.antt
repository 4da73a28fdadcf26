use Rattle.std.proofs.Common.{◌≡◌, take}
use Rattle.seeding.proofs.leaves.grow.Given as goal

-- the tree has the first leaves
abbrev pub invariant-leaves : goal.invariant-leaves
invariant-leaves g l = record {
  size : l.tree.length ≡ l.size;
  leaves : l.tree.leaves ≡ take l.leaf-index l.leaves;
}
