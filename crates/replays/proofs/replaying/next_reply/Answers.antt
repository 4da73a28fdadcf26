use Rattle.std.proofs.Common.{◌∙◌, ap, option_map, refl, subst, arith}
use Rattle.wire.proofs.RecordRuns.{frame_falls}
use Rattle.wire.specs.Records.{form_number}
use Rattle.replays.specs.Replay.{IsHandledAs}
use Rattle.replays.proofs.NextReplies.{MeetsNext, broke_next, told_next}
use Rattle.replays.proofs.Sources.{finds_end, finds_fault}
use Rattle.replays.proofs.replaying.next_reply.Given.{Over}
use Rattle.replays.proofs.replaying.next_reply.Goals as goal
use Rattle.replays.proofs.replaying.next_reply.Goals.{After-respond-response}

-- the frame, and the session's step for it
met : (g : Over) (c : After-respond-response g) → MeetsNext c.args.next.cuts c.args.reader.now.form c.advance.new.self.form
    (g.R.Source.seen c.args.reader.now.source.now) (g.R.Source.seen c.advance.new.self.source.now) c.args.session.now c.frame_as-frame.result
    c.respond-response.result.report c.respond-response.new.session
met g c =
    let read = rw c.in-Ok-true.field-0-test at (c.in-Ok-true.ensures.reads c.requires.open) in
    record {
      form = read.form;
      known_is = read.known;
      directed = read.directed;
      gave = read.gave;
      given = c.frame.result;
      means = c.frame.ensures read.directed read.holds;
      handled = subst (λ t. IsHandledAs t c.frame.result c.args.next.cuts c.frame_as-frame.result) c.torrent.ensures c.frame_as-frame.ensures;
      meets = c.respond-response.ensures.report read.form (c.form.ensures ∙ ap (option_map form_number) read.known);
    }

pub overflow_add-met : goal.overflow_add-met
overflow_add-met g c =
    let next = met g (goal.at.overflow_add-met g c).After-respond-response in
    omega (arith, c.requires.count, frame_falls _ _ _ next.form next.directed next.gave)

pub returns-in-Ok-clause-next : goal.returns-in-Ok-clause-next
returns-in-Ok-clause-next g c =
    told_next c.args.next.after (met g (goal.at.returns-in-Ok-clause-next g c).After-respond-response) _ c.in-Ok.ensures c.respond-response.ensures.reply

pub returns-in-Err-tell-clause-next : goal.returns-in-Err-tell-clause-next
returns-in-Err-tell-clause-next g c =
    broke_next c.args.next.after (met g (goal.at.returns-in-Err-tell-clause-next g c).After-respond-response) c.in-Err-tell.ensures

pub returns-in-Ok-false-clause-next : goal.returns-in-Ok-false-clause-next
returns-in-Ok-false-clause-next g c =
    let end = rw c.in-Ok-false.field-0-test at (c.in-Ok-false.ensures.reads c.requires.open) in
    (finds_end c.args.reader.now.form end.form _ _ end.ends, refl, refl, refl)

pub returns-in-Err-clause-next : goal.returns-in-Err-clause-next
returns-in-Err-clause-next g c =
    let fails = c.in-Err.ensures.reads c.requires.open in
    (finds_fault c.args.reader.now.form _ _ c.in-Err.fault fails.stops (λ e. fails.memory e c.requires.room), refl, refl, refl)
