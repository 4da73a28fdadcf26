use Rattle.std.proofs.Common.{sym, ap₂, subst, arith}
use Rattle.partial_tree.specs.TreeRoot.{TreeRoot}
use Rattle.partial_tree.specs.Kept.{KeptTree, kept, IsGoodTree, TreeTakesLayer}
use Rattle.partial_tree.proofs.Layers.{filled-len}
use Rattle.partial_tree.proofs.Counting.{counted_more, counted_same, known_fits}
use Rattle.partial_tree.proofs.tree.Tree.fill.Goals as goal

pub invariant_of-self : goal.invariant_of-self
invariant_of-self g c =
    counted_same c.self.inside.known c.self.inside.marked c.self.inside.nodes c.fill.new.self c.self.invariant
    c.in_err-gained.ensures.refused.1

pub overflow_add-self : goal.overflow_add-self
overflow_add-self g c =
    let old = c.self.inside in
    let t : TreeRoot = record { root = old.root; length = old.nodes.length } in
    let now : KeptTree = kept old.root old.nodes.length old.nodes.known old.nodes.marked in
    let good : IsGoodTree now = subst IsGoodTree (sym c.self.view_is) c.requires in
    let filled = c.in_ok-gained.ensures.filled in
    let fewer = filled-len t old.nodes.known c.fill.new.self.known c.args.layer c.args.hashes.now c.in_ok-gained.gained
    good.closed c.recall_hashes.ensures filled.0 filled.1 in
    omega (arith, known_fits old.known old.marked c.in_ok-gained.gained old.nodes c.self.invariant fewer)

pub invariant_of-self-2 : goal.invariant_of-self-2
invariant_of-self-2 g c =
    counted_more c.self.inside.known c.self.inside.marked c.in_ok-gained.gained c.self.inside.nodes c.fill.new.self c.self.invariant
    c.in_ok-gained.ensures.filled.1.gained c.fill.ensures.stays

pub returns-clause-filled : goal.returns-clause-filled
returns-clause-filled g c =
    let old = c.self.inside in
    let after = c.fill.new.self.known in
    subst (λ v. TreeTakesLayer v c.args.layer c.args.hashes.now c.in_ok-gained.gained
    (kept old.root c.fill.new.self.length after c.fill.new.self.marked))
    c.self.view_is (c.in_ok-gained.ensures.filled, ap₂ (λ n m. kept old.root n after m) c.fill.ensures.stays.length c.fill.ensures.stays.marked)
