use Rattle.std.proofs.Common.{drop, map}
use Rattle.lines.specs.Rows.{spell}
use Rattle.opening.specs.Seen.{file_entry, tree_entry}
use Rattle.printing.proofs.Parts.{SentBut}
use Rattle.torrent_lines.specs.Rows.{entry_rows}
use Rattle.torrent_lines.proofs.showing.say_files.Given as goal

-- the lines of some first files went out
abbrev pub invariant-files : goal.invariant-files
invariant-files g l =
    let trees = map tree_entry l.trees in
    let spelled = g.L.LineSink.spelled in
    SentBut (g.L.LineSink.seen l.fn.out) (g.L.LineSink.seen l.out)
    (spell spelled (entry_rows trees (map file_entry l.files))) (spell spelled (entry_rows trees (map file_entry (drop l.file-index l.files))))
