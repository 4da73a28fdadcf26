use Rattle.std.proofs.Common.{◌≡◌, ◌+◌, ◌-◌, ◌++◌, List}
use Rattle.opening.specs.Seen.{file_entry}
use Rattle.parts.specs.Runs.{Run, runs_rows}
use Rattle.parts.specs.Spans.{end_in, first_in}
use Rattle.lines.specs.Rows.{spell}
use Rattle.lines.specs.Texts.{text_of}
use Rattle.part_reports.specs.Marks.{AreRunsWithin, IsInRuns, MarksMore}
use Rattle.part_reports.specs.RunLines.{first_bad}
use Rattle.part_reports.proofs.RunLines.{next_piece}
use Rattle.part_reports.proofs.runs.read_all.Given as goal

-- these runs were read, and their pieces marked
abbrev pub invariant-runs : goal.invariant-runs
invariant-runs l =
    let f = file_entry l.file in
    (runs : List Run) × AreRunsWithin (first_in l.fn.places f) (end_in l.torrent l.fn.places f) runs × (l.at ≡ next_piece (first_in l.fn.places f) runs)
    × (l.text ≡ spell text_of (runs_rows l.torrent f runs) ++ l.rest) × MarksMore (IsInRuns f runs) l.fn.bad l.bad × (l.piece ≡ first_bad f runs)

abbrev pub decreases-runs : goal.decreases-runs
decreases-runs l = l.to + 1 - l.at
