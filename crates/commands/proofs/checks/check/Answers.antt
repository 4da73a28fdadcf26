use Rattle.std.proofs.Common.{ap, ◌∙◌}
use Rattle.commands.specs.Outcomes.{answer_status}
use Rattle.commands.proofs.checks.check.Goals as goal

pub returns-in-Ok-clause-checks : goal.returns-in-Ok-clause-checks
returns-in-Ok-clause-checks g c = (
  c.in-Ok.report.files.items,
  c.in-Ok.report.v1,
  c.in-Ok.ensures.verdicts,
  c.in-Ok.ensures.are_true,
  (
    c.in-Ok.ensures.once,
    record {
      counted = c.in-Ok.ensures.unreadable;
      readable = c.in-Ok.ensures.readable;
    },
  ),
  c.in-Ok.ensures.report,
  c.status.ensures ∙ ap answer_status c.yes.ensures,
)

pub returns-in-Ok-clause-in_turn : goal.returns-in-Ok-clause-in_turn
returns-in-Ok-clause-in_turn g c = (
  c.in-Ok.report.files.items,
  c.in-Ok.report.v1,
  c.in-Ok.ensures.in_turn,
  c.status.ensures ∙ ap answer_status c.yes.ensures,
)
