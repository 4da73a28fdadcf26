use Rattle.std.proofs.Common.{◌∙◌, ap}
use Rattle.commands.specs.Outcomes.{answer_status}
use Rattle.commands.proofs.part_checks.check_part_bad.Goals as goal

pub returns-in-Ok-clause-checks : goal.returns-in-Ok-clause-checks
returns-in-Ok-clause-checks g c = (
  c.in-Ok.found.files.items,
  c.in-Ok.found.v1,
  c.in-Ok.ensures.checks,
  c.in-Ok.ensures.report,
  c.status.ensures ∙ ap answer_status c.yes.ensures,
)
