use Rattle.std.proofs.Common.{◌≡◌, ◌++◌, false, sym, ap, ◌∙◌}
use Rattle.opening.specs.Seen.{file_entry}
use Rattle.folders.specs.declared.report.FileVerdict.TheVariants.{Good}
use Rattle.parts.specs.PartLines.{has_place, held_rows}
use Rattle.parts.proofs.PlaceTests.{place_test}
use Rattle.lines.specs.Rows.{spell}
use Rattle.lines.specs.Texts.{text_of}
use Rattle.part_reports.proofs.report_lines.read_verdict.Goals as goal

pub returns-else-touches : goal.returns-else-touches
returns-else-touches c =
    let f = file_entry c.args.file.now in
    let test = place_test c.args.torrent.now c.args.places f c.touches.result c.touches.ensures in
    let off : has_place c.args.torrent.now c.args.places f ≡ false = sym test ∙ c.if-touches.false in
    record { can = tt; is = ap (λ b. spell text_of (held_rows b Good f) ++ c.args.text.now) (sym off) }
