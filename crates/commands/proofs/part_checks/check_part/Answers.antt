use Rattle.std.proofs.Common.{◌∙◌, ap, refl, rules}
use Rattle.commands.specs.Outcomes.{answer_status}
use Rattle.commands.proofs.part_checks.check_part.Goals as goal

pub returns-in-Ok-say_part-clause-checks : goal.returns-in-Ok-say_part-clause-checks
returns-in-Ok-say_part-clause-checks g c = (
  c.in-Ok.report.files.items,
  c.in-Ok.report.v1,
  c.in-Ok.ensures.verdicts,
  search rules,
  (
    search rules,
    record {
      counted = c.in-Ok.ensures.unreadable;
      readable = c.in-Ok.ensures.readable;
    },
  ),
  c.in-Ok-say_part.ensures,
  c.status.ensures ∙ ap answer_status c.yes.ensures,
)

pub returns-clause-checks : goal.returns-clause-checks
returns-clause-checks g c = (
  refl,
  c.in-Ok.report.files.items,
  c.in-Ok.report.v1,
  c.in-Ok.ensures.verdicts,
  search rules,
  (
    search rules,
    record {
      counted = c.in-Ok.ensures.unreadable;
      readable = c.in-Ok.ensures.readable;
    },
  ),
  c.in-Err.ensures,
)
