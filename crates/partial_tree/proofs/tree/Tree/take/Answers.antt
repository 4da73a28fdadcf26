use Rattle.std.proofs.Common.{sym, ap₂, subst, arith}
use Rattle.partial_tree.specs.TreeRoot.{TreeRoot}
use Rattle.partial_tree.specs.Kept.{KeptTree, kept, IsGoodTree, TreeTakesHashes}
use Rattle.partial_tree.proofs.Messages.{joined-len}
use Rattle.partial_tree.proofs.Counting.{counted_more, counted_same, known_fits}
use Rattle.partial_tree.proofs.tree.Tree.take.Goals as goal

pub invariant_of-self : goal.invariant_of-self
invariant_of-self g c =
    counted_same c.self.inside.known c.self.inside.marked c.self.inside.nodes c.take.new.self c.self.invariant
    c.in_err-gained.ensures.refused.1

pub overflow_add-self : goal.overflow_add-self
overflow_add-self g c =
    let old = c.self.inside in
    let t : TreeRoot = record { root = old.root; length = old.nodes.length } in
    let now : KeptTree = kept old.root old.nodes.length old.nodes.known old.nodes.marked in
    let good : IsGoodTree now = subst IsGoodTree (sym c.self.view_is) c.requires in
    let taken = c.in_ok-gained.ensures.taken in
    let fewer = joined-len t old.nodes.known c.take.new.self.known c.args.ask.now c.args.hashes.now c.in_ok-gained.gained
    good.closed c.recall_hashes.ensures taken.0 taken.1 in
    omega (arith, known_fits old.known old.marked c.in_ok-gained.gained old.nodes c.self.invariant fewer)

pub invariant_of-self-2 : goal.invariant_of-self-2
invariant_of-self-2 g c =
    counted_more c.self.inside.known c.self.inside.marked c.in_ok-gained.gained c.self.inside.nodes c.take.new.self c.self.invariant
    c.in_ok-gained.ensures.taken.1.gained c.take.ensures.stays

pub returns-clause-taken : goal.returns-clause-taken
returns-clause-taken g c =
    let old = c.self.inside in
    let after = c.take.new.self.known in
    subst (λ v. TreeTakesHashes v c.args.ask.now c.args.hashes.now c.in_ok-gained.gained
    (kept old.root c.take.new.self.length after c.take.new.self.marked))
    c.self.view_is (c.in_ok-gained.ensures.taken, ap₂ (λ n m. kept old.root n after m) c.take.ensures.stays.length c.take.ensures.stays.marked)
