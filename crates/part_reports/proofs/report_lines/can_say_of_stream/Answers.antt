use Rattle.std.proofs.Common.{sym, subst}
use Rattle.part_reports.specs.Lines.{SaysEnd}
use Rattle.part_reports.proofs.Said.{Tests}
use Rattle.part_reports.proofs.report_lines.can_say_of_stream.Goals as goal

pub returns-in-Some : goal.returns-in-Some
returns-in-Some c =
    let said = c.can_say_of_hybrid in
    subst (λ o. Tests said.result (SaysEnd c.args.places c.args.pieces c.args.worst o)) (sym c.in-Some.is) said.ensures
