use Rattle.std.proofs.Common.{length, sym, ap₂, subst, arith}
use Rattle.partial_tree.specs.TreeRoot.{TreeRoot}
use Rattle.partial_tree.specs.Kept.{KeptTree, kept, IsGoodTree}
use Rattle.partial_tree.specs.LeafRows.{TreeTakesRow, IsLeafRow}
use Rattle.node_maps.specs.Known.{look}
use Rattle.partial_tree.proofs.EndPads.{pads-agree}
use Rattle.partial_tree.proofs.TakenRows.{row-len, good_row}
use Rattle.partial_tree.proofs.Counting.{counted_more, counted_same, known_fits}
use Rattle.partial_tree.proofs.tree.Tree.take_leaves.Goals as goal

pub take_leaves-requires-clause-pads : goal.take_leaves-requires-clause-pads
take_leaves-requires-clause-pads g c =
    let good : IsGoodTree (kept c.self.inside.root c.self.inside.nodes.length c.self.inside.nodes.known c.self.inside.nodes.marked) =
    subst IsGoodTree (sym c.self.view_is) c.requires.good in
    pads-agree (record { root = c.self.inside.root; length = c.self.inside.nodes.length }) (look c.self.inside.nodes.known) good.closed

pub invariant_of-self : goal.invariant_of-self
invariant_of-self g c =
    counted_same c.self.inside.known c.self.inside.marked c.self.inside.nodes c.take_leaves.new.self c.self.invariant
    c.in_err-gained.ensures.refused.1

pub overflow_add-self : goal.overflow_add-self
overflow_add-self g c =
    let old = c.self.inside in
    let t : TreeRoot = record { root = old.root; length = old.nodes.length } in
    let now : KeptTree = kept old.root old.nodes.length old.nodes.known old.nodes.marked in
    let good : IsGoodTree now = subst IsGoodTree (sym c.self.view_is) c.requires.good in
    let row : IsLeafRow old.nodes.length c.args.first c.args.span (length c.args.hashes.now) =
    subst (λ (v : KeptTree). IsLeafRow v.length c.args.first c.args.span (length c.args.hashes.now)) (sym c.self.view_is) c.requires.row in
    let taken = c.in_ok-gained.ensures.taken in
    let fewer = row-len t old.nodes.known c.take_leaves.new.self.known c.args.first c.args.span c.args.hashes c.in_ok-gained.gained row
    good.closed c.recall_hashes.ensures taken.0 taken.1 in
    omega (arith, known_fits old.known old.marked c.in_ok-gained.gained old.nodes c.self.invariant fewer)

pub invariant_of-self-2 : goal.invariant_of-self-2
invariant_of-self-2 g c =
    counted_more c.self.inside.known c.self.inside.marked c.in_ok-gained.gained c.self.inside.nodes c.take_leaves.new.self c.self.invariant
    c.in_ok-gained.ensures.taken.1.gained c.take_leaves.ensures.stays

pub returns-clause-taken : goal.returns-clause-taken
returns-clause-taken g c =
    let old = c.self.inside in
    let after = c.take_leaves.new.self.known in
    subst (λ v. TreeTakesRow v c.args.first c.args.span c.args.hashes.now c.in_ok-gained.gained
    (kept old.root c.take_leaves.new.self.length after c.take_leaves.new.self.marked))
    c.self.view_is
    (c.in_ok-gained.ensures.taken, ap₂ (λ n m. kept old.root n after m) c.take_leaves.ensures.stays.length c.take_leaves.ensures.stays.marked)

pub returns-clause-good : goal.returns-clause-good
returns-clause-good g c =
    good_row c.args.self.now _ c.args.first c.args.span c.args.hashes c.in_ok-gained.gained c.requires.row c.requires.good c.recall_hashes.ensures
    (returns-clause-taken g c)
