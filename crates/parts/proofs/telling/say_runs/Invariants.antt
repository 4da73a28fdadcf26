use Rattle.std.proofs.Common.{List, ◌+◌, ◌-◌, ◌≤◌}
use Rattle.benc.specs.Device.{Sent}
use Rattle.lines.specs.Rows.{spell}
use Rattle.opening.specs.Seen.{file_entry}
use Rattle.parts.specs.Parts.{piece_count}
use Rattle.parts.specs.Runs.{IsSetIfIn, Run, runs_rows}
use Rattle.parts.proofs.Runs.{RunsUpTo}
use Rattle.parts.proofs.telling.say_runs.Given as goal

abbrev pub invariant-runs : goal.invariant-runs
invariant-runs g l = (runs : List Run) × (l.bits.first ≤ l.at)
    × RunsUpTo (IsSetIfIn l.bits.first l.from l.to l.bits.bits.now) (piece_count l.torrent (file_entry l.file)) (l.from + (l.at - l.bits.first)) runs
    × Sent (g.L.LineSink.seen l.fn.out) (g.L.LineSink.seen l.out)
    (spell g.L.LineSink.spelled (runs_rows l.torrent (file_entry l.file) runs))

abbrev pub decreases-runs : goal.decreases-runs
decreases-runs g l = l.end_bit - l.at
