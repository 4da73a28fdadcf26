use Rattle.std.proofs.Common.{◌≡◌, ◌++◌, ◌∙◌, ap, append-nil, subst, sym}
use Rattle.std.specs.Option.{MatchOption}
use Rattle.lines.specs.Reading.{BeginsWith}
use Rattle.lines.specs.Rows.{spell}
use Rattle.lines.specs.Texts.{text_of}
use Rattle.folders.specs.Printed.{version1_rows, version1_row}
use Rattle.folders.proofs.report_lines.strip_version1.Goals as goal

pub returns-in-Some : goal.returns-in-Some
returns-in-Some c =
    let text = c.args.text.now in
    let one = append-nil (text_of (version1_row c.in-Some.verdict)) in
    subst (λ l. MatchOption c.strip_line.result (BeginsWith l text → ⊥) (λ rest. text ≡ l ++ rest.now))
    (ap text_of c.version1_line.ensures ∙ sym one ∙ ap (λ o. spell text_of (version1_rows o)) (sym c.in-Some.is)) c.strip_line.ensures
