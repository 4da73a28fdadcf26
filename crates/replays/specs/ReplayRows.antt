-- The lines that `replay` prints, as rows of the table of lines, and as they are spelled.
use Rattle.std.specs.Prelude.{ℕ, ◌+◌, ◌==◌, if◌then◌else◌, List, [], ◌∷◌, ◌++◌, length, Option, Some, None, codes}
use Rattle.std.specs.List.{flat_map}
use Rattle.partial_tree.specs.declared.refusal.BlockRefusal.{BlockRefusal}
use Rattle.partial_tree.specs.declared.refusal.BlockRefusal.TheVariants as block_refusal
use Rattle.partial_tree.specs.Names.{block_refusal_name, block_refusal_number, hash_refusal_name, hash_refusal_number}
use Rattle.session.specs.Blocks.{BlocksSeen}
use Rattle.session.specs.declared.verdict.Verdict.{Verdict}
use Rattle.session.specs.declared.verdict.Verdict.TheVariants as verdict
use Rattle.wire.specs.declared.fault.FrameFault.TheVariants as fault
use Rattle.holdings.specs.declared.holding.Hold.{Hold}
use Rattle.holdings.specs.declared.holding.Hold.TheVariants as hold
use Rattle.holdings.specs.declared.run.Run.{Run}
use Rattle.holdings.specs.declared.run.Settled.{Settled}
use Rattle.holdings.specs.declared.run.Settled.TheVariants as settled
use Rattle.lines.specs.Rows.{Row, Spelling, row}
use Rattle.lines.specs.Table.{bad_frame_row, block_items, dropped_row, false_row, fault_row, frame_row, held_row, plain_row, proved_row, refused_row}
use Rattle.lines.specs.Table.{skipped_row, stored_row, verified_row}
use Rattle.replays.specs.declared.report.Ending.{Ending}
use Rattle.replays.specs.declared.report.Ending.TheVariants as ending
use Rattle.replays.specs.declared.report.FrameReport.{FrameReport}
use Rattle.replays.specs.declared.report.FrameReport.TheVariants as frame_report
use Rattle.replays.specs.declared.said.Said.{Said}
use Rattle.replays.specs.declared.said.Said.TheVariants as said

-- ---- one frame

-- the line of frame n, whose message has this verdict; a message of blocks has one for each of them
-- instead
abbrev pub message_verdict_row : ℕ → Verdict → Row
message_verdict_row n (verdict.Stored count) = stored_row n count
message_verdict_row n (verdict.HashRefused r) =
    refused_row n (codes "H") (hash_refusal_number r) (hash_refusal_name r) []
message_verdict_row n (verdict.Blocks v) = row [] []
message_verdict_row n (verdict.BlockRefused r) =
    refused_row n (codes "P") (block_refusal_number r) (block_refusal_name r) []
message_verdict_row n verdict.Answered = frame_row (codes "answered") n []
message_verdict_row n verdict.Rejected = frame_row (codes "rejected") n []
message_verdict_row n verdict.RejectNoted = frame_row (codes "reject noted") n []
message_verdict_row n verdict.KeepAlive = frame_row (codes "keep-alive") n []
message_verdict_row n (verdict.Skipped id) = skipped_row n id
message_verdict_row n verdict.Noted = frame_row (codes "sent request") n []
message_verdict_row n verdict.Sent = frame_row (codes "sent") n []

-- the line of frame n
abbrev pub report_row : ℕ → FrameReport → Row
report_row n (frame_report.Verdict v) = message_verdict_row n v
report_row n (frame_report.BadFrame id len) = bad_frame_row n id len

-- one line says all of it: it is no message of blocks
abbrev pub IsOneLine : FrameReport → Type 0
IsOneLine (frame_report.Verdict (verdict.Blocks v)) = ⊥
IsOneLine t = Unit {0}

-- the line in frame n of entry m, refused by this number and name, with its place if there are
-- several
abbrev pub refused_entry_row : ℕ → BlocksSeen → ℕ → ℕ → List ℕ → Row
refused_entry_row n v m why called =
    refused_row n (codes "P") why called
    (if length v.refusals == 1 then [] else block_items v.file (v.first + m))

-- the line in frame n of entry m
abbrev pub frame_entry_row : ℕ → BlocksSeen → ℕ → Option BlockRefusal → Row
frame_entry_row n v m None = verified_row n v.file (v.first + m)
frame_entry_row n v m (Some r) =
    refused_entry_row n v m (block_refusal_number r) (block_refusal_name r)

-- the lines of these entries of a message, from number m on
unfoldable pub entry_lines_as : Spelling → ℕ → BlocksSeen → ℕ → List (Option BlockRefusal) → List ℕ
entry_lines_as spelled n v m [] = []
entry_lines_as spelled n v m (r ∷ rs) =
    spelled (frame_entry_row n v m r) ++ entry_lines_as spelled n v (m + 1) rs

-- the lines of frame n, which has this report: one, and for a message of blocks one for each
unfoldable pub lines_as : Spelling → ℕ → FrameReport → List ℕ
lines_as spelled n (frame_report.Verdict (verdict.Blocks v)) =
    entry_lines_as spelled n v 0 v.refusals
lines_as spelled n t = spelled (report_row n t)

-- ---- what is told if blocks are held

-- what became in frame n of held blocks of a file
abbrev pub settled_row : ℕ → ℕ → Settled → Row
settled_row n file (settled.Proved run) = proved_row n file run.first run.last
settled_row n file (settled.False run) = false_row n file run.first run.last

-- memory was refused
abbrev pub lacks_row : ℕ → Row
lacks_row n = refused_row n (codes "P") 5 (codes "NoMemory") []

-- the lines in frame n of what became of entry m, which was unproved; a piece that gave way is of
-- this file
abbrev pub hold_lines_as : Spelling → ℕ → BlocksSeen → ℕ → Hold → ℕ → List ℕ
hold_lines_as spelled n v m (hold.Held None) file = spelled (held_row n v.file (v.first + m))
hold_lines_as spelled n v m (hold.Held (Some run)) file =
    spelled (dropped_row n file run.first run.last) ++ spelled (held_row n v.file (v.first + m))
hold_lines_as spelled n v m hold.Known file =
    spelled (frame_entry_row n v m (Some block_refusal.Unproved))
hold_lines_as spelled n v m hold.NoMemory file =
    spelled (refused_entry_row n v m 5 (codes "NoMemory"))

-- the lines of one thing that is told of frame n
abbrev pub said_lines_as : Spelling → ℕ → Said → List ℕ
said_lines_as spelled n (said.Report d) = lines_as spelled n d
said_lines_as spelled n (said.Entry v m r) = spelled (frame_entry_row n v m r)
said_lines_as spelled n (said.Unproved v m h file) = hold_lines_as spelled n v m h file
said_lines_as spelled n (said.Settling file e) = spelled (settled_row n file e)
said_lines_as spelled n said.Lacking = spelled (lacks_row n)

-- the lines of all that is told of frame n
abbrev pub all_lines_as : Spelling → ℕ → List Said → List ℕ
all_lines_as spelled n told = flat_map (said_lines_as spelled n) told

-- ---- the end

-- the last line
abbrev pub ending_row : Ending → Row
ending_row ending.End = plain_row (codes "end") []
ending_row (ending.Fault fault.Truncated) = fault_row (codes "Truncated")
ending_row (ending.Fault fault.Read) = fault_row (codes "Read")
ending_row (ending.Fault fault.NoMemory) = fault_row (codes "NoMemory")
ending_row (ending.Fault fault.BadDirection) = fault_row (codes "BadDirection")
