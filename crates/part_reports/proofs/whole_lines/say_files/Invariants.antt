use Rattle.std.proofs.Common.{◌≡◌, List, length}
use Rattle.benc.specs.Device.{Sent}
use Rattle.folders.specs.declared.report.FileVerdict.{FileVerdict}
use Rattle.parts.specs.Runs.{Run}
use Rattle.lines.specs.Rows.{spell}
use Rattle.part_reports.specs.WholeLines.{ShowsFirst, whole_lines_rows}
use Rattle.part_reports.proofs.whole_lines.say_files.Given as goal

abbrev pub invariant-files : goal.invariant-files
invariant-files g l = (marked : List (FileVerdict × List Run)) × (length marked ≡ l.i) × ShowsFirst l.torrent l.joined marked
    × Sent (g.L.LineSink.seen l.fn.out) (g.L.LineSink.seen l.out) (spell g.L.LineSink.spelled (whole_lines_rows l.torrent marked l.torrent.files))
