use Rattle.std.proofs.Common.{◌≡◌, ℕ, suc, ◌*◌, ◌-◌, ◌^◌, ◌%◌, ◌<◌, [], length, sym, ap, ◌∙◌, subst, arith, rules}
use Rattle.std.proofs.lemmas.Nat.{one_shl}
use Rattle.std.proofs.lemmas.Bool.{false≢true}
use Rattle.chains.proofs.Cases.{on_err}
use Rattle.partial_tree.specs.TreeRoot.{TreeRoot}
use Rattle.node_maps.specs.Places.{tree_height, IsKnown}
use Rattle.node_maps.specs.Nodes.{Nodes}
use Rattle.partial_tree.specs.Fill.{fill_claims, IsFillAccepted}
use Rattle.partial_tree.specs.Claims.{HasNew}
use Rattle.partial_tree.specs.Joins.{Joins}
use Rattle.node_maps.specs.Known.{Known, look}
use Rattle.node_maps.specs.Runs.{AreKnown}
use Rattle.partial_tree.proofs.Planted.{known-joins, layer-new}
use Rattle.partial_tree.proofs.Layers.{layer-leads_as}
use Rattle.partial_tree.proofs.nodes.TreeNodes.plant.Given.{Over}
use Rattle.partial_tree.proofs.nodes.TreeNodes.plant.Goals as goal
use Rattle.partial_tree.proofs.nodes.TreeNodes.plant.Goals.{After-self}

-- the layer is accepted by what is known inside
module _ (g : Over) (c : After-self g) where
  abbrev before : Known
  before = (g.N.NodeMap.seen c.self.inside.map).known

  abbrev t : TreeRoot
  t = record { root = []; length = c.self.inside.shape }

  accepted : IsFillAccepted c.self.inside.shape (look before) c.args.layer c.args.hashes.now
  accepted = subst (λ n. IsFillAccepted n (look before) c.args.layer c.args.hashes.now) c.self.invariant.0
      (subst (λ (n : Nodes). IsFillAccepted n.length (look n.known) c.args.layer c.args.hashes.now) (sym c.self.view_is) c.requires.accepted)

  -- how many places the layer has, as it is computed
  width : 1 * 2 ^ (c.self.inside.height - c.args.layer) % 2 ^ 64 ≡ 2 ^ (tree_height c.self.inside.shape - c.args.layer)
  width = one_shl (c.self.inside.height - c.args.layer) 64 (omega (arith, c.self.invariant.2)) ∙ ap (λ n. 2 ^ (n - c.args.layer)) c.self.invariant.1

pub store_agreed-requires-clause-leads : goal.store_agreed-requires-clause-leads
store_agreed-requires-clause-leads g c =
    let r = (goal.at.store_agreed-requires-clause-leads g c).After-self in
    layer-leads_as (t g r) (look (before g r)) c.args.layer c.args.hashes (accepted g r).layer_inside (accepted g r).right_count c.self.inside.height
    c.zero.result c.self.invariant.1 c.zero.ensures

pub returns-then-knows-clause-planted : goal.returns-then-knows-clause-planted
returns-then-knows-clause-planted g c =
    let r = (goal.at.returns-then-knows-clause-planted g c).After-self in
    let K : Known = (g.N.NodeMap.seen c.self.inside.map).known in
    let upward : (k i : ℕ) → k < tree_height c.self.inside.shape → IsKnown (look K) k (2 * i) → IsKnown (look K) (suc k) i =
    subst (λ l. (k i : ℕ) → k < tree_height l → IsKnown (look K) k (2 * i) → IsKnown (look K) (suc k) i) c.self.invariant.0
    (subst (λ (n : Nodes). (k i : ℕ) → k < tree_height n.length → IsKnown (look n.known) k (2 * i) → IsKnown (look n.known) (suc k) i) (sym c.self.view_is)
    c.requires.upward) in
    subst (λ (n : Nodes). Joins (fill_claims n.length c.args.layer c.args.hashes.now) n.known n.known 0) c.self.view_is
    (subst (λ l. Joins (fill_claims l c.args.layer c.args.hashes.now) K K 0) (sym c.self.invariant.0)
    (known-joins (t g r) K c.args.layer c.args.hashes (accepted g r).layer_inside (accepted g r).right_count upward
    (subst (AreKnown (look K c.args.layer) 0) (width g r) (c.knows.ensures.0 c.if-knows.true)) (accepted g r).agrees))

pub returns-clause-no_memory : goal.returns-clause-no_memory
returns-clause-no_memory g c =
    let r = (goal.at.returns-clause-no_memory g c).After-self in
    on_err c.store_agreed.result (subst (λ (n : Nodes). HasNew (look n.known) (fill_claims n.length c.args.layer c.args.hashes.now)) c.self.view_is
    (subst (λ l. HasNew (look (before g r)) (fill_claims l c.args.layer c.args.hashes.now)) (sym c.self.invariant.0)
    (layer-new (t g r) (look (before g r)) c.args.layer c.args.hashes (accepted g r).layer_inside (accepted g r).right_count
    (λ known. false≢true (sym c.if-knows.false
    ∙ c.knows.ensures.1 (subst (AreKnown (look (before g r) c.args.layer) 0) (sym (width g r)) known))))))

pub returns-then-knows-clause-no_memory : goal.returns-then-knows-clause-no_memory
returns-then-knows-clause-no_memory g c = search rules

pub invariant_of-self : goal.invariant_of-self
invariant_of-self g c =
    let same = c.store_agreed.ensures.stays.length in
    (same ∙ c.self.invariant.0, c.self.invariant.1, c.self.invariant.2, c.store_agreed.ensures.trimmed)
