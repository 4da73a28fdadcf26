use Rattle.std.proofs.Common.{◌∙◌, ap}
use Rattle.commands.specs.Outcomes.{answer_status}
use Rattle.commands.proofs.joins.join_marked.Goals as goal

pub returns-in-Ok-say_marked_report : goal.returns-in-Ok-say_marked_report
returns-in-Ok-say_marked_report g c = (
  c.in-Ok.joined,
  c.in-Ok.ensures.joined,
  c.in-Ok-say_marked_report.ensures,
  c.status.ensures ∙ ap answer_status c.yes.ensures,
)
