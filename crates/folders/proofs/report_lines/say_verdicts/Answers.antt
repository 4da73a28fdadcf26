use Rattle.std.proofs.Common.{◌≡◌, ◌+◌, ◌<◌, ◌++◌, ◌∷◌, ◌∙◌, [], List, ℕ, drop, map, length, get_or, ap, append-nil, arith}
use Rattle.std.proofs.lemmas.List.{drop_more}
use Rattle.std.proofs.lemmas.Result.{err_from_is_err_and}
use Rattle.lines.specs.Rows.{Spelling, spell}
use Rattle.opening.specs.declared.torrent.File.{File}
use Rattle.opening.specs.Seen.{file_entry}
use Rattle.folders.specs.declared.report_lines.Lines.TheVariants.{All}
use Rattle.folders.specs.declared.report.FileVerdict.{FileVerdict}
use Rattle.folders.specs.declared.report.FileVerdict.TheVariants.{Good}
use Rattle.folders.specs.Printed.{verdict_row, verdicts_rows}
use Rattle.printing.proofs.Parts.{item_next, sent_fault, sent_next}
use Rattle.folders.proofs.report_lines.say_verdicts.Goals as goal

-- the line at an index, and those behind it
next_line : (spelled : Spelling) (verdicts : List FileVerdict) (files : List File) (i : ℕ) (file : File)
    → i < length verdicts → i < length files → file ≡ get_or files i file
    → spell spelled (verdicts_rows All (drop i verdicts) (map file_entry (drop i files)))
    ≡ spelled (verdict_row (get_or verdicts i Good) (file_entry file))
    ++ spell spelled (verdicts_rows All (drop (i + 1) verdicts) (map file_entry (drop (i + 1) files)))
next_line spelled verdicts files i file lt within there =
    ap (λ vs. spell spelled (verdicts_rows All vs (map file_entry (drop i files)))) (drop_more verdicts i Good lt)
    ∙ ap (λ fs. spell spelled (verdicts_rows All (get_or verdicts i Good ∷ drop (i + 1) verdicts) (map file_entry fs))) (item_next files i file within there)

pub returns-in_err-say_verdict : goal.returns-in_err-say_verdict
returns-in_err-say_verdict g c =
    let next = next_line g.L.LineSink.spelled c.args.verdicts.now c.args.files.now c.files.i c.index-files-i.result
    (omega (arith, c.files-test.true, c.requires)) (omega (arith, c.files-test.true)) c.index-files-i.is in
    let p = err_from_is_err_and c.from_residual.result c.from_residual.ensures.1 in
    sent_fault _ p.0 _ _ _ _ _ _ _ c.files.invariant next p.1 c.in_err-say_verdict.ensures

pub files-preserved : goal.files-preserved
files-preserved g c =
    let next = next_line g.L.LineSink.spelled c.args.verdicts.now c.args.files.now c.files.i c.index-files-i.result
    (omega (arith, c.files-test.true, c.requires)) (omega (arith, c.files-test.true)) c.index-files-i.is in
    sent_next _ _ _ _ _ _ _ c.files.invariant next c.in_ok-say_verdict.ensures
