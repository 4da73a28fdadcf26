use Rattle.std.proofs.Common.{Some, not, sym, ap, subst}
use Rattle.part_reports.specs.Lines.{SaysEnd}
use Rattle.part_reports.proofs.Said.{Tests, says_good, says_not_checked}
use Rattle.part_reports.proofs.report_lines.can_say_of_hybrid.Goals as goal

pub returns-in-NotChecked : goal.returns-in-NotChecked
returns-in-NotChecked c =
    let whole = c.is_whole in
    subst (λ v. Tests (not whole.result) (SaysEnd c.args.places c.args.pieces c.args.worst (Some v))) (sym c.in-NotChecked.is)
    (says_not_checked c.args.places c.args.pieces c.args.worst (not whole.result) (ap not whole.ensures))

pub returns-in-Good : goal.returns-in-Good
returns-in-Good c =
    let whole = c.is_whole-in-Good in
    subst (λ v. Tests whole.result (SaysEnd c.args.places c.args.pieces c.args.worst (Some v))) (sym c.in-Good.is)
    (says_good c.args.places c.args.pieces c.args.worst whole.result whole.ensures)

pub returns-in-Bad : goal.returns-in-Bad
returns-in-Bad c =
    subst (λ v. Tests c.can_say_bad.result (SaysEnd c.args.places c.args.pieces c.args.worst (Some v))) (sym c.in-Bad.is) c.can_say_bad.ensures
