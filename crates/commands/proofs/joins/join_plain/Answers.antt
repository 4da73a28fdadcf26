use Rattle.std.proofs.Common.{◌∙◌, ap}
use Rattle.commands.specs.Outcomes.{answer_status}
use Rattle.commands.proofs.joins.join_plain.Goals as goal

pub returns-in-Ok-say_report : goal.returns-in-Ok-say_report
returns-in-Ok-say_report g c = (
  c.in-Ok.report.files.items,
  c.in-Ok.report.v1,
  c.in-Ok.ensures.joined,
  c.in-Ok-say_report.ensures,
  c.status.ensures ∙ ap answer_status c.yes.ensures,
)
