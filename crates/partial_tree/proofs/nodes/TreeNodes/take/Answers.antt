use Rattle.std.proofs.Common.{◌≡◌, IfOk, IfErr, ◌-◌, ◌/◌, ◌^◌, not, refl, sym, ap, ap₂, ◌∙◌, subst, arith, rules}
use Rattle.partial_tree.specs.declared.message.evidence.Evidence.{Evidence}
use Rattle.node_maps.specs.Places.{tree_height, IsTreePlace, IsKnown}
use Rattle.node_maps.specs.Known.{Known, look}
use Rattle.node_maps.specs.Nodes.{Nodes}
use Rattle.partial_tree.specs.Claims.{top_layer, top_index, GoodRange, GoodCount}
use Rattle.partial_tree.specs.Joins.{Joins}
use Rattle.partial_tree.specs.Evidence.{LeadsTo, StoreFault, claimed_by}
use Rattle.std.proofs.lemmas.Result.{on_ok_weaker}
use Rattle.chains.proofs.Cases.{some_of}
use Rattle.partial_tree.proofs.MessagePages.{few-up_to}
use Rattle.partial_tree.proofs.Messages.{PassesTests, same_claims, leads, taken_by, refused_by}
use Rattle.partial_tree.proofs.nodes.TreeNodes.take.Given.{Over}
use Rattle.partial_tree.proofs.nodes.TreeNodes.take.Goals as goal
use Rattle.partial_tree.proofs.nodes.TreeNodes.take.Goals.{After-zero}

-- the evidence of a message whose top is known
module _ (g : Over) (c : After-zero g) where
  abbrev before : Known
  before = (g.N.NodeMap.seen c.self.inside.map).known

  abbrev ev : Evidence
  ev = record { base = c.args.ask.now.base; index = c.from-2.result; span = c.in_ok-span.span; hashes = c.args.hashes; pad = c.zero.result }

  top_known : IsKnown (look before) c.in_ok-top.top (c.from.result / 2 ^ (c.in_ok-top.top - c.args.ask.now.base))
  top_known = (let v = some_of c.get.result (c.is_none.ensures ∙ ap not c.if-is_none.false) in (v.0, sym c.get.ensures ∙ v.1))

  passes : PassesTests ev c.args.self.now.length c.args.self.now.known c.args.ask.now c.args.hashes.now
  passes =
      let ask = c.args.ask.now in
      let hashes = c.args.hashes.now in
      let range = c.in_ok-span.ensures.good in
      let count = c.in_ok-top.ensures.good in
      subst (λ (n : Nodes). PassesTests ev n.length n.known ask hashes) c.self.view_is
      (subst (λ l. PassesTests ev l before ask hashes) (sym c.self.invariant.0) (record {
        claimed = same_claims ev ask hashes refl c.from-2.ensures range.1 refl count.0.enough;
        range = subst (λ h. GoodRange h ask) c.self.invariant.1 range.0;
        count = subst (λ h. GoodCount h ask hashes) c.self.invariant.1 count.0;
        pads = c.if-not-pads_fit.ensures.fit;
        top = (
          top_known.0,
          ap₂ (look before) (sym count.1) (ap₂ (λ i l. i / 2 ^ (l - ask.base)) (sym c.from.ensures) (sym count.1)) ∙ top_known.1,
        );
      }))

pub store-requires-clause-place : goal.store-requires-clause-place
store-requires-clause-place g c =
    let index = c.from.result / 2 ^ (c.in_ok-top.top - c.args.ask.now.base) in
    subst (λ (n : Nodes). IsTreePlace (tree_height n.length) c.in_ok-top.top index) (sym c.self.view_is)
    (c.requires c.in_ok-top.top index (subst (λ (n : Nodes). IsKnown (look n.known) c.in_ok-top.top index) c.self.view_is
    (top_known g (goal.at.store-requires-clause-place g c).After-zero)))

pub store-requires-clause-leads : goal.store-requires-clause-leads
store-requires-clause-leads g c =
    let ask = c.args.ask.now in
    let hashes = c.args.hashes.now in
    let e : Evidence = ev g (goal.at.store-requires-clause-leads g c).After-zero in
    let range = c.in_ok-span.ensures.good in
    let count = c.in_ok-top.ensures.good in
    let at : LeadsTo e (top_layer ask hashes) (top_index ask hashes) = leads e ask hashes refl c.from-2.ensures range.1 refl count.0.enough range.2
    range.0.aligned in
    subst (λ l. LeadsTo e l (c.from.result / 2 ^ (l - ask.base))) (sym count.1)
    (subst (λ i. LeadsTo e (top_layer ask hashes) (i / 2 ^ (top_layer ask hashes - ask.base))) (sym c.from.ensures) at)

pub returns-clause-taken : goal.returns-clause-taken
returns-clause-taken g c =
    let r = (goal.at.returns-clause-taken g c).After-zero in
    let after : Known = (g.N.NodeMap.seen c.store.new.map).known in
    taken_by (passes g r) after c.store.result
    (subst (λ (n : Nodes). IfOk c.store.result (λ k. Joins (claimed_by (ev g r)) n.known after k)) c.self.view_is c.store.ensures.stored)

pub returns-clause-refused : goal.returns-clause-refused
returns-clause-refused g c =
    let r = (goal.at.returns-clause-refused g c).After-zero in
    let now : Nodes = g.N.NodeMap.seen c.store.new.map in
    refused_by (passes g r) (now ≡ c.args.self.now) c.store.result
    (subst (λ (n : Nodes). IfErr c.store.result (λ y. StoreFault (look n.known) (claimed_by (ev g r)) y × (now ≡ n))) c.self.view_is c.store.ensures.refused)

pub returns-clause-few : goal.returns-clause-few
returns-clause-few g c = on_ok_weaker c.store.result (λ few.
    let range = c.in_ok-span.ensures.good in
    let count = c.in_ok-top.ensures.good in
    let before : g.N.NodeMap.held c.self.inside.map ≡ g.N.NodeMap.needed c.args.self.now.known =
    c.self.invariant.3 ∙ ap (λ (n : Nodes). g.N.NodeMap.needed n.known) c.self.view_is in
    omega (
      arith,
      few,
      before,
      c.store.ensures.trimmed,
      few-up_to c.args.ask.now.base c.from-2.result c.in_ok-span.span c.in_ok-top.top range.3
          (omega (arith, count.1, count.0.top_inside, c.self.invariant.2)),
    )) c.store.ensures.few

pub returns-then-not-pads_fit-clause-refused : goal.returns-then-not-pads_fit-clause-refused
returns-then-not-pads_fit-clause-refused g c = search rules

pub invariant_of-self : goal.invariant_of-self
invariant_of-self g c =
    let same = c.store.ensures.stays.length in
    (same ∙ c.self.invariant.0, c.self.invariant.1, c.self.invariant.2, c.store.ensures.trimmed)
