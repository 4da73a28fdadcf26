use Rattle.std.proofs.Common.{◌≡◌, ◌++◌, ◌∙◌, List, ℕ, Option, map, ap, sym, refl}
use Rattle.std.proofs.lemmas.Grind.{flat_map-append}
use Rattle.std.proofs.lemmas.Result.{err_from_is_err_and}
use Rattle.benc.proofs.Out.{Wrote-then, Wrote-part}
use Rattle.lines.specs.Rows.{Row, Spelling, spell}
use Rattle.opening.specs.Description.{Description, FileEntry}
use Rattle.opening.specs.Seen.{file_entry}
use Rattle.folders.specs.declared.report.FileVerdict.{FileVerdict}
use Rattle.folders.specs.declared.report.V1Verdict.{V1Verdict}
use Rattle.parts.specs.PartLines.{head_row, part_end_rows, part_rows, place_rows}
use Rattle.parts.specs.Shares.{share}
use Rattle.parts.specs.declared.places.Places.{Places}
use Rattle.parts.proofs.part_lines.say_all.Goals as goal

-- all lines from their parts as they were made
parts : (spelled : Spelling) (t : Description) (part count : ℕ) (files seen : List FileVerdict) (v1 : Option V1Verdict) (entries : List FileEntry)
    (places : Places) → seen ≡ files → entries ≡ t.files → places ≡ share t part count
    → spell spelled (part_rows t part count files v1)
    ≡ spelled (head_row t part count) ++ (spell spelled (place_rows t places seen entries) ++ spell spelled (part_end_rows files v1))
parts spelled t part count files seen v1 entries places same all held =
    let end : List Row = part_end_rows files v1 in
    ap (λ text. spelled (head_row t part count) ++ text) (
    ap (λ fs. spell spelled (place_rows t (share t part count) files fs ++ end)) (sym all)
    ∙ ap (λ vs. spell spelled (place_rows t (share t part count) vs entries ++ end)) (sym same)
    ∙ ap (λ r. spell spelled (place_rows t r seen entries ++ end)) (sym held)
    ∙ flat_map-append spelled (place_rows t places seen entries) end
    )

pub returns-in_err-say_head : goal.returns-in_err-say_head
returns-in_err-say_head g c =
    let t = c.args.torrent.now in
    let r = c.args.report.now in
    let spelled = g.L.LineSink.spelled in
    let places = share t c.args.part c.args.parts in
    let p = err_from_is_err_and c.from_residual.result c.from_residual.ensures.1 in
    Wrote-part _ p.0 _ _ (spelled (head_row t c.args.part c.args.parts))
    (spell spelled (place_rows t places r.files.items t.files) ++ spell spelled (part_end_rows r.files.items r.v1)) _
    (parts spelled t c.args.part c.args.parts r.files.items r.files.items r.v1 t.files places refl refl refl) p.1 c.in_err-say_head.ensures

pub returns-in_err-say_files : goal.returns-in_err-say_files
returns-in_err-say_files g c =
    let t = c.args.torrent.now in
    let r = c.args.report.now in
    let spelled = g.L.LineSink.spelled in
    let entries = map file_entry c.files.result.now in
    let lines = spell spelled (place_rows t c.of_part-places.result c.deref.result.now entries) in
    let end = spell spelled (part_end_rows r.files.items r.v1) in
    let p = err_from_is_err_and c.from_residual-in_err-say_files.result c.from_residual-in_err-say_files.ensures.1 in
    Wrote-then _ _ _ _ (spelled (head_row t c.args.part c.args.parts)) (lines ++ end) _
    (parts spelled t c.args.part c.args.parts r.files.items c.deref.result.now r.v1 entries c.of_part-places.result c.deref.ensures.value c.files.ensures
    c.of_part-places.ensures)
    c.in_ok-say_head.ensures (Wrote-part _ p.0 _ _ lines end _ refl p.1 c.in_err-say_files.ensures)

pub returns : goal.returns
returns g c =
    let t = c.args.torrent.now in
    let r = c.args.report.now in
    let spelled = g.L.LineSink.spelled in
    let entries = map file_entry c.files.result.now in
    let lines = spell spelled (place_rows t c.of_part-places.result c.deref.result.now entries) in
    let end = spell spelled (part_end_rows r.files.items r.v1) in
    Wrote-then _ _ _ _ (spelled (head_row t c.args.part c.args.parts)) (lines ++ end) _
    (parts spelled t c.args.part c.args.parts r.files.items c.deref.result.now r.v1 entries c.of_part-places.result c.deref.ensures.value c.files.ensures
    c.of_part-places.ensures)
    c.in_ok-say_head.ensures (Wrote-then _ _ _ _ lines end _ refl c.in_ok-say_files.ensures c.say_end.ensures)
