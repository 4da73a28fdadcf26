-- What a replay ends with beside which blocks are held.
use Rattle.std.specs.Prelude.{◌≡◌, ℕ}
use Rattle.holdings.specs.Holdings.{HoldingsSeen}
use Rattle.lines.specs.Rows.{Spelling}
use Rattle.replays.specs.ByPieces.{by_pieces_as}
use Rattle.replays.specs.Outcome.{status_of}
use Rattle.replays.specs.Replay.{IsReport, ReplaySeen}

-- the report of a record went out, spelled so, with its answers if they are wanted; and the status
-- is that of the outcome
abbrev pub IsReplayedByPieces : Spelling → ReplaySeen HoldingsSeen → ReplaySeen HoldingsSeen → ℕ
    → Type 0
IsReplayedByPieces spelled old new status =
    (outcome : _) × IsReport (by_pieces_as spelled) old new outcome × (status ≡ status_of outcome)
