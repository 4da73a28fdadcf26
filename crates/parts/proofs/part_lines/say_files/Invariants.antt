use Rattle.std.proofs.Common.{drop, map}
use Rattle.lines.specs.Rows.{spell}
use Rattle.opening.specs.Seen.{file_entry}
use Rattle.printing.proofs.Parts.{SentBut}
use Rattle.parts.specs.PartLines.{place_rows}
use Rattle.parts.proofs.part_lines.say_files.Given as goal

-- the lines of some first files went out
abbrev pub invariant-files : goal.invariant-files
invariant-files g l =
    SentBut (g.L.LineSink.seen l.fn.out) (g.L.LineSink.seen l.out)
    (spell g.L.LineSink.spelled (place_rows l.torrent l.places l.verdicts (map file_entry l.files)))
    (spell g.L.LineSink.spelled (place_rows l.torrent l.places (drop l.i l.verdicts) (map file_entry (drop l.i l.files))))
