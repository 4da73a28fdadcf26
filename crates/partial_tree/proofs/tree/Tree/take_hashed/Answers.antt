use Rattle.std.proofs.Common.{◌^◌, ◌≤◌, sym, subst, arith, rules}
use Rattle.std.specs.FinSet as set
use Rattle.partial_tree.specs.Kept.{KeptTree, kept, IsGoodTree}
use Rattle.partial_tree.proofs.Counting.{counted_mark, marks_fit}
use Rattle.partial_tree.proofs.tree.Tree.take_hashed.Goals as goal

pub overflow_add-self : goal.overflow_add-self
overflow_add-self g c =
    let old = c.self.inside in
    let now : KeptTree = kept old.root old.nodes.length old.nodes.known old.nodes.marked in
    let good : IsGoodTree now = subst IsGoodTree (sym c.self.view_is) c.requires.good in
    let few : set.len old.nodes.marked ≤ 2 ^ 32 = marks_fit now good c.self.invariant.low in
    omega (arith, few, c.self.invariant.marked_is, c.mark.ensures.one)

pub invariant_of-self : goal.invariant_of-self
invariant_of-self g c =
    counted_mark c.self.inside.known c.self.inside.marked c.mark.result c.args.block c.self.inside.nodes c.mark.new.self c.self.invariant
    c.mark.ensures.marked c.mark.ensures.count

pub mark-requires : goal.mark-requires
mark-requires g c = search rules

pub returns-clause-taken : goal.returns-clause-taken
returns-clause-taken g c = search rules

pub returns-then-bytes-block_len-clause-refused : goal.returns-then-bytes-block_len-clause-refused
returns-then-bytes-block_len-clause-refused g c = search rules
