use Rattle.std.proofs.Common.{◌≡◌, ◌+◌, ◌/◌, Some, sym, ap, ◌∙◌, subst}
use Rattle.partial_tree.specs.Evidence.{claimed_by, node_over_base}
use Rattle.partial_tree.proofs.Tracing.{given_claimed}
use Rattle.partial_tree.proofs.Uncles.{half-over, parent-claimed, uncle-and-parent}
use Rattle.partial_tree.proofs.Visits.{where-none}
use Rattle.partial_tree.proofs.message.folding.fold_uncle.Given.{Over}
use Rattle.partial_tree.proofs.message.folding.fold_uncle.Goals as goal
use Rattle.partial_tree.proofs.message.folding.fold_uncle.Goals.{After-unwrap-uncle, After-parent_of-hash}

uncle : (g : Over) (c : After-unwrap-uncle g) → claimed_by c.args.evidence.now c.args.layer c.sibling-index.result ≡ Some c.unwrap-uncle.result
uncle g c = given_claimed c.args.evidence.now c.args.layer c.sibling-index.result _ (sym c.given.ensures ∙ c.unwrap-uncle.ensures)

above : (g : Over) (c : After-parent_of-hash g)
    → claimed_by c.args.evidence.now (c.args.layer + 1) (node_over_base c.args.evidence.now (c.args.layer + 1)) ≡ Some c.parent_of-hash.result
above g c = parent-claimed c.args.evidence.now c.args.layer c.args.hash.now c.requires.at _ c.parent_of-hash.result
    (ap (claimed_by c.args.evidence.now c.args.layer) (sym c.sibling-index.ensures) ∙ uncle g (goal.at.After-parent_of-hash g c).After-unwrap-uncle)
    c.parent_of-hash.ensures.left c.parent_of-hash.ensures.right

parent : (g : Over) (c : After-parent_of-hash g)
    → claimed_by c.args.evidence.now (c.args.layer + 1) (node_over_base c.args.evidence.now c.args.layer / 2) ≡ Some c.parent_of-hash.result
parent g c =
    let e = c.args.evidence.now in
    ap (claimed_by e (c.args.layer + 1)) (half-over e c.args.layer c.args.hash.now c.requires.at) ∙ above g c

pub visit-requires : goal.visit-requires
visit-requires g c = c.requires.admits _ (uncle g (goal.at.visit-requires g c).After-unwrap-uncle)

pub returns-in_err-visit-clause-stopped : goal.returns-in_err-visit-clause-stopped
returns-in_err-visit-clause-stopped g c =
    where-none c.from_residual.result _ (_, uncle g (goal.at.returns-in_err-visit-clause-stopped g c).After-unwrap-uncle, c.in_err-visit.ensures.stops)

pub visit-requires-2 : goal.visit-requires-2
visit-requires-2 g c =
    g.met.V.Visitor.admits_after _ _ _ _ c.in_ok-visit.ensures.visits
    (c.requires.admits _ (parent g (goal.at.visit-requires-2 g c).After-parent_of-hash))

pub returns-in_err-visit-2-clause-stopped : goal.returns-in_err-visit-2-clause-stopped
returns-in_err-visit-2-clause-stopped g c = where-none c.from_residual-in_err-visit-2.result _ (
  _,
  parent g (goal.at.returns-in_err-visit-2-clause-stopped g c).After-parent_of-hash,
  g.met.V.Visitor.stops_before _ _ _ _ c.in_ok-visit.ensures.visits c.in_err-visit-2.ensures.stops,
)

pub returns-clause-value : goal.returns-clause-value
returns-clause-value g c = above g (goal.at.returns-clause-value g c).After-parent_of-hash

pub returns-clause-visited : goal.returns-clause-visited
returns-clause-visited g c =
    let is = c.sibling-index.ensures in
    let at = (goal.at.returns-clause-visited g c).After-parent_of-hash in
    uncle-and-parent c.args.evidence.now c.args.layer c.args.hash.now c.requires.at g.V.Visitor.visits c.unwrap-uncle.result c.parent_of-hash.result
    c.args.visitor.now c.visit.new.self c.visit-2.new.self
    (ap (claimed_by c.args.evidence.now c.args.layer) (sym is) ∙ uncle g (goal.at.returns-clause-visited g c).After-unwrap-uncle) (parent g at)
    (subst (λ i. g.V.Visitor.visits c.args.visitor.now (record { layer = c.args.layer; index = i; hash = c.unwrap-uncle.result }) c.visit.new.self) is
    c.in_ok-visit.ensures.visits) c.in_ok-visit-2.ensures.visits
