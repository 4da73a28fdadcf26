use Rattle.std.proofs.Common.{◌≡◌, ◌+◌, ◌-◌, ◌*◌, ◌/◌, ◌^◌, ◌≤◌, ap, ◌∙◌, sym, subst, arith}
use Rattle.partial_tree.specs.Evidence.{claimed_by}
use Rattle.partial_tree.specs.Visits.{VisitsRow}
use Rattle.partial_tree.proofs.Uncles.{all-visited, cover-row, over-cover, pair-visited, under-uncle}
use Rattle.partial_tree.proofs.Visits.{all-admitted, stopped-before, where-none}
use Rattle.partial_tree.proofs.message.folding.fold.Goals as goal

pub fold_row-requires-clause-at : goal.fold_row-requires-clause-at
fold_row-requires-clause-at g c = cover-row c.args.evidence.now c.args.layer c.requires.leads

pub fold_uncle-requires-clause-at : goal.fold_uncle-requires-clause-at
fold_uncle-requires-clause-at g c =
    under-uncle c.args.evidence.now c.args.layer c.requires.leads c.uncles.below c.uncles.hash c.uncles.auto.below c.uncles-test.true c.uncles.invariant.value

pub fold_uncle-requires-clause-admits : goal.fold_uncle-requires-clause-admits
fold_uncle-requires-clause-admits g c =
    all-admitted g.V.Visitor.visits (claimed_by c.args.evidence.now) _ _ _ _ c.uncles.invariant.visited g.V.Visitor.admits g.met.V.Visitor.admits_after
    c.requires.admits

pub returns-in_err-hash-2-clause-stopped : goal.returns-in_err-hash-2-clause-stopped
returns-in_err-hash-2-clause-stopped g c =
    where-none c.from_residual-in_err-hash-2.result _ (stopped-before g.V.Visitor.visits (claimed_by c.args.evidence.now) _ _ _ _ c.uncles.invariant.visited
    g.V.Visitor.stops g.met.V.Visitor.stops_before c.in_err-hash-2.ensures.stopped)

pub uncles-init : goal.uncles-init
uncles-init g c =
    let e = c.args.evidence.now in
    let plain : e.index / 2 ^ e.span ≡ e.index / 2 ^ e.span * 2 ^ 0 + 0 = omega arith in
    record {
      value = ap (claimed_by e (e.base + e.span)) (over-cover e ∙ plain) ∙ c.in_ok-hash.ensures.value 0 (omega arith);
      visited = subst (λ n. VisitsRow g.V.Visitor.visits (claimed_by e) (record { layer = e.base + e.span; depth = 0; node = n }) c.args.visitor.now
          c.fold_row.new.visitor) (sym (over-cover e)) c.in_ok-hash.ensures.visited;
    }

pub uncles-preserved : goal.uncles-preserved
uncles-preserved g c =
    let e = c.args.evidence.now in
    let from = c.uncles.auto.below in
    let at = under-uncle e c.args.layer c.requires.leads c.uncles.below c.uncles.hash from c.uncles-test.true c.uncles.invariant.value in
    record {
      value = c.in_ok-hash-2.ensures.value;
      visited = pair-visited e c.args.layer c.requires.leads g.V.Visitor.visits c.uncles.below c.args.visitor.now c.uncles.visitor c.fold_uncle.new.visitor from
          at.uncle c.uncles.invariant.visited c.in_ok-hash-2.ensures.visited;
    }

pub returns-clause-visited : goal.returns-clause-visited
returns-clause-visited g c =
    let covers : c.args.evidence.now.base + c.args.evidence.now.span ≤ c.args.layer = c.requires.leads.leads.is_over.covers in
    all-visited c.args.evidence.now c.args.layer c.requires.leads g.V.Visitor.visits c.uncles.below c.args.visitor.now c.uncles.visitor
    (omega (arith, c.uncles-test.false, c.uncles.auto.below-end covers)) c.uncles.invariant.visited
