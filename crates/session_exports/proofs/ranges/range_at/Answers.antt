use Rattle.std.proofs.Common.{◌≡◌, ◌+◌, ◌<◌, ◌≤◌, ◌∙◌, inl, inr, sym, ap, subst, arith, eq-or-lt_of_le}
use Rattle.std.proofs.lemmas.Bool.{false≢true}
use Rattle.session_exports.specs.Exports.{IsRange, leaves_ask}
use Rattle.session.specs.Session.{IsAnswered}
use Rattle.session_exports.proofs.KnownRanges.{none-above, range-of, pair-answered}
use Rattle.session_exports.proofs.ranges.range_at.Goals as goal

pub spans-init : goal.spans-init
spans-init g c =
    let (t, there, root_is, height_is) = c.root_and_height-height.ensures.value in
    record {
      few = omega (arith, c.min-span.ensures);
      wider = none-above c.args.session.now c.args.tree c.args.block c.recall_closed_trees.ensures c.recall_distinct_roots.ensures c.requires.leaf t there
          c.root_and_height-height.result.0 c.root_and_height-height.result.1 root_is height_is c.min-span.result (omega (arith, c.min-span.ensures));
    }

pub spans-preserved : goal.spans-preserved
spans-preserved g c = record {
  few = omega (arith, c.spans.invariant.few);
  wider = λ j less few. elim (eq-or-lt_of_le (let to : c.spans.span ≤ j = omega (arith, less) in to)) [
    | inl same ↦ λ known. false≢true (sym c.if-can_answer.false ∙ c.can_answer.ensures.1 (subst (IsAnswered c.args.session.now) (sym c.ask_for-ask.ensures)
        (subst (λ k. IsAnswered c.args.session.now (leaves_ask c.root_and_height-height.result.0 c.root_and_height-height.result.1 c.args.block k)) (sym same)
        known)))
    | inr more ↦ c.spans.invariant.wider j more few
  ];
}

pub returns-then-can_answer : goal.returns-then-can_answer
returns-then-can_answer g c =
    let (t, there, root_is, height_is) = c.root_and_height-height.ensures.value in
    let S = c.args.session.now in
    subst (IsRange S c.args.tree c.args.block) (sym c.ask_for-ask.ensures)
    (range-of S c.args.tree c.args.block c.recall_closed_trees.ensures c.recall_distinct_roots.ensures c.requires.leaf t there
    c.root_and_height-height.result.0 c.root_and_height-height.result.1 root_is height_is c.spans.span c.spans.invariant.few c.spans.invariant.wider
    (subst (IsAnswered S) c.ask_for-ask.ensures (c.can_answer.ensures.0 c.if-can_answer.true)))

pub returns : goal.returns
returns g c =
    let (t, there, root_is, height_is) = c.root_and_height-height.ensures.value in
    let S = c.args.session.now in
    subst (IsRange S c.args.tree c.args.block) (sym c.ask_for.ensures)
    (range-of S c.args.tree c.args.block c.recall_closed_trees.ensures c.recall_distinct_roots.ensures c.requires.leaf t there
    c.root_and_height-height.result.0 c.root_and_height-height.result.1 root_is height_is 1 (omega arith)
    (λ j less few. c.spans.invariant.wider j (omega (arith, c.spans-test.false, less)) few)
    (pair-answered S c.args.tree c.args.block c.recall_closed_trees.ensures c.recall_distinct_roots.ensures c.requires.leaf t there
    c.root_and_height-height.result.0 c.root_and_height-height.result.1 root_is height_is))
