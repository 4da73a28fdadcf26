use Rattle.std.proofs.Common.{sym, ap₂, subst, arith}
use Rattle.chains.proofs.Cases.{on_err}
use Rattle.partial_tree.specs.TreeRoot.{TreeRoot}
use Rattle.partial_tree.specs.Fill.{fill_claims, IsFillAccepted}
use Rattle.node_maps.specs.Known.{look}
use Rattle.partial_tree.specs.Kept.{KeptTree, kept, IsGoodTree, TreeJoins}
use Rattle.partial_tree.proofs.Layers.{filled-len}
use Rattle.partial_tree.specs.Claims.{HasNew}
use Rattle.partial_tree.proofs.Planted.{closed-upward}
use Rattle.partial_tree.proofs.Counting.{counted_more, counted_same, known_fits}
use Rattle.partial_tree.proofs.tree.Tree.plant.Goals as goal

pub invariant_of-self : goal.invariant_of-self
invariant_of-self g c =
    counted_same c.self.inside.known c.self.inside.marked c.self.inside.nodes c.plant.new.self c.self.invariant
    c.in_err-gained.ensures.refused

pub overflow_add-self : goal.overflow_add-self
overflow_add-self g c =
    let old = c.self.inside in
    let t : TreeRoot = record { root = old.root; length = old.nodes.length } in
    let now : KeptTree = kept old.root old.nodes.length old.nodes.known old.nodes.marked in
    let good : IsGoodTree now = subst IsGoodTree (sym c.self.view_is) c.requires.good in
    let accepted : IsFillAccepted old.nodes.length (look old.nodes.known) c.args.layer c.args.hashes.now =
    subst (λ (v : KeptTree). IsFillAccepted v.length (look v.state.known) c.args.layer c.args.hashes.now) (sym c.self.view_is) c.requires.accepted in
    let fewer = filled-len t old.nodes.known c.plant.new.self.known c.args.layer c.args.hashes.now c.in_ok-gained.gained
    good.closed c.recall_hashes.ensures accepted (c.in_ok-gained.ensures.planted) in
    omega (arith, known_fits old.known old.marked c.in_ok-gained.gained old.nodes c.self.invariant fewer)

pub invariant_of-self-2 : goal.invariant_of-self-2
invariant_of-self-2 g c =
    counted_more c.self.inside.known c.self.inside.marked c.in_ok-gained.gained c.self.inside.nodes c.plant.new.self c.self.invariant
    c.in_ok-gained.ensures.planted.gained c.plant.ensures.stays

pub returns-clause-planted : goal.returns-clause-planted
returns-clause-planted g c =
    let old = c.self.inside in
    let after = c.plant.new.self.known in
    subst (λ (v : KeptTree). TreeJoins (fill_claims v.length c.args.layer c.args.hashes.now) v c.in_ok-gained.gained
    (kept old.root c.plant.new.self.length after c.plant.new.self.marked))
    c.self.view_is (c.in_ok-gained.ensures.planted, ap₂ (λ n m. kept old.root n after m) c.plant.ensures.stays.length c.plant.ensures.stays.marked)

pub plant-requires-clause-upward : goal.plant-requires-clause-upward
plant-requires-clause-upward g c =
    let old = c.self.inside in
    let now : KeptTree = kept old.root old.nodes.length old.nodes.known old.nodes.marked in
    let good : IsGoodTree now = subst IsGoodTree (sym c.self.view_is) c.requires.good in
    closed-upward (record { root = old.root; length = old.nodes.length }) (look old.nodes.known) good.closed

pub returns-in_err-gained-clause-no_memory : goal.returns-in_err-gained-clause-no_memory
returns-in_err-gained-clause-no_memory g c =
    on_err c.from_residual.result (subst (λ (v : KeptTree). HasNew (look v.state.known) (fill_claims v.length c.args.layer c.args.hashes.now)) c.self.view_is
    c.in_err-gained.ensures.no_memory)
