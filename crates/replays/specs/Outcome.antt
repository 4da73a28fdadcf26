-- What the lines of a replay's report amount to.
use Rattle.std.specs.Prelude.{ℕ, Bool, true, false, ◌||◌, if◌then◌else◌, is_some}
use Rattle.std.specs.List.{list_any}
use Rattle.partial_tree.specs.declared.refusal.HashRefusal.TheVariants.{NoMemory}
use Rattle.session.specs.declared.verdict.Verdict.TheVariants as verdict
use Rattle.replays.specs.declared.report.FrameReport.{FrameReport}
use Rattle.replays.specs.declared.report.FrameReport.TheVariants as frame_report
use Rattle.replays.specs.declared.report.Ending.{Ending}
use Rattle.replays.specs.declared.report.Ending.TheVariants as ending
use Rattle.replays.specs.declared.report.Outcome.{Outcome}

-- a line has `refused` or `bad frame`
abbrev pub is_refusal : FrameReport → Bool
is_refusal (frame_report.Verdict (verdict.HashRefused r)) = true
is_refusal (frame_report.Verdict (verdict.Blocks v)) = list_any is_some v.refusals
is_refusal (frame_report.Verdict (verdict.BlockRefused r)) = true
is_refusal (frame_report.BadFrame id len) = true
is_refusal t = false

-- the line has `refused H7`
abbrev pub is_no_memory : FrameReport → Bool
is_no_memory (frame_report.Verdict (verdict.HashRefused NoMemory)) = true
is_no_memory t = false

-- the last line has `fault`
abbrev pub is_fault : Ending → Bool
is_fault ending.End = false
is_fault (ending.Fault why) = true

-- the exit status: 2 for a fault or `refused H7`, else 1 for `refused` or `bad frame`, else 0
abbrev pub status_of : Outcome → ℕ
status_of o = if o.fault || o.no_memory then 2 else (if o.refused then 1 else 0)
