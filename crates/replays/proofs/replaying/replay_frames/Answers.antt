use Rattle.std.proofs.Common.{◌<◌, ◌^◌, ◌+◌, refl, ◌∙◌, arith}
use Rattle.replays.proofs.Replays.{cut_in_answer, cut_in_line, frame_falls, in_replay_more, in_replay_none}
use Rattle.replays.proofs.ReplayEnds.{in_end_of_record, in_end_unanswered, report_cut, report_ended}
use Rattle.replays.proofs.replaying.replay_frames.Goals as goal

pub frames-init : goal.frames-init
frames-init g c = record {
  source = refl;
  going = c.requires.open;
  room = c.requires.room;
  so_far = in_replay_none _ _ _ _ c.requires.fresh c.default-outcome.ensures.0 c.default-outcome.ensures.1.0 c.default-outcome.ensures.1.1;
}

pub next_reply-requires-clause-open : goal.next_reply-requires-clause-open
next_reply-requires-clause-open g c = c.frames.invariant.going

pub next_reply-requires-clause-room : goal.next_reply-requires-clause-room
next_reply-requires-clause-room g c = c.frames.invariant.room

pub next_reply-requires-clause-count : goal.next_reply-requires-clause-count
next_reply-requires-clause-count g c =
    let finite : (g.R.Source.seen c.args.reader.now.source.now).limit < 2 ^ 64 = g.met.R.Source.finite c.args.reader.now.source.now in
    omega (arith, c.frames.invariant.so_far.room)

pub overflow_add-number : goal.overflow_add-number
overflow_add-number g c =
    let finite : (g.R.Source.seen c.args.reader.now.source.now).limit < 2 ^ 64 = g.met.R.Source.finite c.args.reader.now.source.now in
    omega (arith, c.frames.invariant.so_far.room, frame_falls c.in-Ok.ensures.next.3)

pub frames-smaller : goal.frames-smaller
frames-smaller g c = omega (arith, frame_falls c.in-Ok.ensures.next.3)

pub frames-preserved : goal.frames-preserved
frames-preserved g c = record {
  source = c.in-Ok.ensures.source ∙ c.frames.invariant.source;
  going = c.in-Ok.ensures.open;
  room = c.in-Ok.ensures.room;
  so_far = in_replay_more _ c.frames.invariant.so_far c.in-Ok.ensures.next c.in-Ok-answer.ensures;
}

pub returns-in-Err-Write-clause-cut_report : goal.returns-in-Err-Write-clause-cut_report
returns-in-Err-Write-clause-cut_report g c =
    cut_in_line _ c.frames.invariant.so_far (rw c.in-Err-Write.field-0-is at c.in-Err-Write.ensures.next) refl

pub returns-in-Err-Write-answer-clause-cut_report : goal.returns-in-Err-Write-answer-clause-cut_report
returns-in-Err-Write-answer-clause-cut_report g c =
    cut_in_answer _ _ c.frames.invariant.so_far c.in-Ok.ensures.next
    (rw c.in-Err-Write-answer.field-0-is at c.in-Err-Write-answer.ensures)

pub returns-in-Err-NoMemory-clause-report : goal.returns-in-Err-NoMemory-clause-report
returns-in-Err-NoMemory-clause-report g c =
    let replies = rw c.in-Err-NoMemory.field-0-is at c.in-Err-NoMemory.ensures in
    report_ended _ c.end_replay-in-Err-NoMemory.result (in_end_unanswered _ c.frames.invariant.so_far c.in-Ok.ensures.next replies)
    c.end_replay-in-Err-NoMemory.ensures.wrote c.end_replay-in-Err-NoMemory.ensures.outcome

pub returns-in-Err-NoMemory-clause-cut_report : goal.returns-in-Err-NoMemory-clause-cut_report
returns-in-Err-NoMemory-clause-cut_report g c =
    let replies = rw c.in-Err-NoMemory.field-0-is at c.in-Err-NoMemory.ensures in
    report_cut _ c.end_replay-in-Err-NoMemory.result (in_end_unanswered _ c.frames.invariant.so_far c.in-Ok.ensures.next replies)
    c.end_replay-in-Err-NoMemory.ensures.wrote

pub returns-in-Err-Ended-clause-report : goal.returns-in-Err-Ended-clause-report
returns-in-Err-Ended-clause-report g c =
    let next = rw c.in-Err-Ended.field-0-is at c.in-Err-Ended.ensures.next in
    report_ended _ c.end_replay.result (in_end_of_record c.frames.invariant.so_far next) c.end_replay.ensures.wrote c.end_replay.ensures.outcome

pub returns-in-Err-Ended-clause-cut_report : goal.returns-in-Err-Ended-clause-cut_report
returns-in-Err-Ended-clause-cut_report g c =
    let next = rw c.in-Err-Ended.field-0-is at c.in-Err-Ended.ensures.next in
    report_cut _ c.end_replay.result (in_end_of_record c.frames.invariant.so_far next) c.end_replay.ensures.wrote

pub returns-in-Err-Ended-clause-source : goal.returns-in-Err-Ended-clause-source
returns-in-Err-Ended-clause-source g c = c.in-Err-Ended.ensures.source ∙ c.frames.invariant.source

pub returns-in-Err-Write-clause-source : goal.returns-in-Err-Write-clause-source
returns-in-Err-Write-clause-source g c = c.in-Err-Write.ensures.source ∙ c.frames.invariant.source

pub returns-in-Err-NoMemory-clause-source : goal.returns-in-Err-NoMemory-clause-source
returns-in-Err-NoMemory-clause-source g c = c.in-Ok.ensures.source ∙ c.frames.invariant.source

pub returns-in-Err-Write-answer-clause-source : goal.returns-in-Err-Write-answer-clause-source
returns-in-Err-Write-answer-clause-source g c = c.in-Ok.ensures.source ∙ c.frames.invariant.source
