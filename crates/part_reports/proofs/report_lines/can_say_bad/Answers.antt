use Rattle.std.proofs.Common.{◌≡◌, true, refl, sym, ◌∙◌, arith}
use Rattle.folders.specs.Verdicts.{is_whole}
use Rattle.folders.specs.declared.report.V1Verdict.TheVariants.{Bad}
use Rattle.part_reports.proofs.Said.{apart, says_bad}
use Rattle.part_reports.proofs.report_lines.can_say_bad.Goals as goal

pub returns-then-is_whole : goal.returns-then-is_whole
returns-then-is_whole c =
    says_bad c.args.places c.args.pieces c.args.worst c.args.piece c.is_between.result
    (λ on.
    let both = c.is_between.ensures.0 on in (
      sym c.is_whole.ensures ∙ c.if-is_whole.true,
      both.0,
      omega (arith, both.1, c.min-to.ensures),
      omega (arith, both.1, c.min-to.ensures),
    ))
    (λ whole from to below. c.is_between.ensures.1 (from, omega (arith, to, below, c.min-to.ensures)))

pub returns-else-is_whole : goal.returns-else-is_whole
returns-else-is_whole c = (
  λ on. absurd (apart c.is_whole.result on c.if-is_whole.false),
  λ said.
      let whole : true ≡ is_whole c.args.worst = (said (Bad c.args.piece) refl).1 in
      absurd (apart (is_whole c.args.worst) (sym whole) (sym c.is_whole.ensures ∙ c.if-is_whole.false)),
)
