use Rattle.std.proofs.Common.{◌≡◌, ◌++◌, ◌∙◌, List, Option, map, ap, sym}
use Rattle.std.proofs.lemmas.Grind.{flat_map-append}
use Rattle.std.proofs.lemmas.Result.{err_from_is_err_and}
use Rattle.benc.proofs.Out.{Wrote-then, Wrote-part}
use Rattle.lines.specs.Rows.{Spelling, spell}
use Rattle.opening.specs.Description.{FileEntry}
use Rattle.opening.specs.Seen.{file_entry}
use Rattle.folders.specs.declared.report_lines.Lines.TheVariants.{All}
use Rattle.folders.specs.declared.report.FileVerdict.{FileVerdict}
use Rattle.folders.specs.declared.report.V1Verdict.{V1Verdict}
use Rattle.folders.specs.Printed.{end_rows, report_rows, verdicts_rows}
use Rattle.folders.proofs.report_lines.say_all.Goals as goal

-- all lines from their parts as they were made
parts : (spelled : Spelling) (entries : List FileEntry) (files seen : List FileVerdict) (v1 : Option V1Verdict) → seen ≡ files
    → spell spelled (report_rows All entries files v1) ≡ spell spelled (verdicts_rows All seen entries) ++ spell spelled (end_rows All files v1)
parts spelled entries files seen v1 same =
    flat_map-append spelled (verdicts_rows All files entries) (end_rows All files v1)
    ∙ ap (λ vs. spell spelled (verdicts_rows All vs entries) ++ spell spelled (end_rows All files v1)) (sym same)

pub returns-in_err-say_verdicts : goal.returns-in_err-say_verdicts
returns-in_err-say_verdicts g c =
    let spelled = g.L.LineSink.spelled in
    let r = c.args.report.now in
    let entries = map file_entry c.args.files.now in
    let seen = c.deref.result.now in
    let p = err_from_is_err_and c.from_residual.result c.from_residual.ensures.1 in
    Wrote-part _ p.0 _ _ (spell spelled (verdicts_rows All seen entries)) (spell spelled (end_rows All r.files.items r.v1)) _
    (parts spelled entries r.files.items seen r.v1 c.deref.ensures.value) p.1 c.in_err-say_verdicts.ensures

pub returns : goal.returns
returns g c =
    let spelled = g.L.LineSink.spelled in
    let r = c.args.report.now in
    let entries = map file_entry c.args.files.now in
    let seen = c.deref.result.now in
    Wrote-then _ _ _ _ (spell spelled (verdicts_rows All seen entries)) (spell spelled (end_rows All r.files.items r.v1)) _
    (parts spelled entries r.files.items seen r.v1 c.deref.ensures.value) c.in_ok-say_verdicts.ensures c.say_end.ensures
