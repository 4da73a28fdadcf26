-- The end of a replay.
use Rattle.std.proofs.Common.{◌≡◌, ◌+◌, ◌++◌, ◌||◌, ℕ, false, List, [], ◌∷◌, Option, Result, Ok, Err, IfOk, OnErr, refl}
use Rattle.std.proofs.Common.{sym, ap, ◌∙◌, subst, inl, inr}
use Rattle.std.specs.Prelude.{is_some}
use Rattle.std.specs.List.{list_any}
use Rattle.std.proofs.lemmas.List.{append-nil}
use Rattle.benc.specs.Device.{Sent, SinkSeen}
use Rattle.benc.specs.declared.device.WriteFault.{WriteFault}
use Rattle.benc.proofs.Known.{Appends_nothing}
use Rattle.benc.proofs.Out.{Sent-append}
use Rattle.wire.specs.declared.fault.FrameFault.TheVariants as fault
use Rattle.wire.specs.declared.form.Form.{Form}
use Rattle.replays.specs.declared.report.Ending.{Ending}
use Rattle.replays.specs.declared.report.Ending.TheVariants as ending
use Rattle.replays.specs.declared.report.Outcome.{Outcome}
use Rattle.replays.specs.Outcome.{is_fault}
use Rattle.replays.specs.Telling.{Teller}
use Rattle.replays.specs.TellingOf.{NextReply}
use Rattle.replays.specs.declared.report.Reply.{Reply}
use Rattle.lines.specs.declared.out_fault.OutFault.TheVariants as failed
use Rattle.replays.specs.Answering.{Finishes, IfWanted, Replies}
use Rattle.replays.specs.Replay.{Ends, EndsUnanswered, Handled, IsCutAtEnd}
use Rattle.replays.specs.Replay.{IsCutInFlush, IsCutReport, IsReport, ReplaySeen, FindsEnding}
use Rattle.replays.specs.Replay.{answers_of, last_lines_of, lines_from, told_of, unanswered}
use Rattle.replays.proofs.Replies.{hashes_answer_requests, none_sent, same_wanted, sent_and_flushed, sent_unflushed}
use Rattle.replays.proofs.MoreFrames.{next_lines, any_more, outcome_same, sent_then_flushed}
use Rattle.replays.proofs.Sources.{replayed_nothing, replayed_ends}
use Rattle.replays.proofs.Replays.{InReplay, but_last, begins_of, flat_one}

-- the report ends after these frames, all of whose lines and answers went out
pub record InEnd {Kept Told : Type 0} (T : Teller Kept Told) (old : ReplaySeen Kept) (out : SinkSeen) (answers : Option SinkSeen) (new : ReplaySeen Kept)
    (e : Ending) (o : Outcome) : Type 0 where
  pub handled : List (Handled Told)
  pub ends : Ends T old new handled e
  pub sent : Sent old.report out (lines_from T 1 handled)
  pub answered : IfWanted (λ a b. Sent a b (answers_of handled)) old.answers answers
  pub refused_is : o.refused ≡ list_any T.refuses (told_of handled)
  pub no_memory_is : o.no_memory ≡ list_any T.lacks_memory (told_of handled)

-- no frame was read
pub in_end_at_once : {Kept Told : Type 0} (T : Teller Kept Told) (old new : ReplaySeen Kept) (o : Outcome) → new.source ≡ old.source → new.state ≡ old.state
    → o.refused ≡ false → o.no_memory ≡ false
    → InEnd T old old.report old.answers new (ending.Fault fault.NoMemory) o
in_end_at_once T old new o source session refused no_memory = record {
  handled = [];
  ends = inl (replayed_nothing T old new source session);
  sent = record { bytes = Appends_nothing old.report.written; faults = refl; flushes = refl };
  answered = none_sent old.answers;
  refused_is = refused;
  no_memory_is = no_memory;
}

-- the record has ended
pub in_end_of_record : {Kept Told : Type 0} {T : Teller Kept Told} {old mid new : ReplaySeen Kept} {out : SinkSeen} {known : Option Form} {n : ℕ}
    {o o' : Outcome} {e : Ending} → InReplay T old mid known n o
    → FindsEnding known mid.source new.source e × (new.state ≡ mid.state) × (out ≡ mid.report) × (o' ≡ o) → InEnd T old out mid.answers new e o'
in_end_of_record {Kept} {Told} {T} {old} {mid} {new} {out} {known} {n} {o} {o'} {e} so_far (next, stays, silent, noted) = record {
  handled = so_far.handled;
  ends = inl (replayed_ends T known old mid new so_far.handled e so_far.so_far next stays);
  sent = subst (λ r. Sent old.report r (lines_from T 1 so_far.handled)) (sym silent) so_far.sent;
  answered = so_far.answered;
  refused_is = ap (λ x. x.refused) noted ∙ so_far.refused_is;
  no_memory_is = ap (λ x. x.no_memory) noted ∙ so_far.no_memory_is;
}

-- memory was refused for an answer, after its line
pub in_end_unanswered : {Kept Told : Type 0} {T : Teller Kept Told} {old mid new : ReplaySeen Kept} {out : SinkSeen} {answers : Option SinkSeen}
    {known known' : Option Form} {n : ℕ} {o o' : Outcome} (r : Reply) → InReplay T old mid known n o
    → NextReply T old.cuts n known known' mid (record new { report = out }) o o' (Ok r) → Replies new.state.0 r mid.answers answers (Err failed.NoMemory)
    → InEnd T old out answers new (ending.Fault fault.NoMemory) o'
unfolding begins_of
in_end_unanswered {Kept} {Told} {T} {old} {mid} {new} {out} {answers} {known} {known'} {n} {o} {o'} r so_far (form, known_is, told, next, wrote, noted)
    (stays, there, ask, is) =
    let h : Handled Told = unanswered next.frame next.report told in
    let hs = so_far.handled in
    let lines : lines_from T 1 (hs ++ h ∷ []) ≡ lines_from T 1 hs ++ T.lines (n + 1) told = next_lines T hs h n so_far.number_is in
    let wanted : is_some mid.answers ≡ is_some old.answers = same_wanted (λ a b. Sent a b (answers_of hs)) old.answers mid.answers so_far.answered in
    let cut : EndsUnanswered T old new (hs ++ h ∷ []) (ending.Fault fault.NoMemory) = record {
      before = hs;
      last = h;
      all = refl;
      handles = but_last new so_far (begins_of next);
      report_is = hashes_answer_requests next.frame next.report ask (sym next.reply_is ∙ is);
      wanted = sym wanted ∙ there;
      ending_is = refl;
    } in
    record {
      handled = hs ++ h ∷ [];
      ends = inr cut;
      sent = subst (Sent old.report out) (sym lines)
          (Sent-append old.report mid.report out (lines_from T 1 hs) (T.lines (n + 1) told) so_far.sent wrote);
      answered = subst (λ t. IfWanted (λ a b. Sent a b t) old.answers answers) (sym (flat_one hs h ∙ append-nil (answers_of hs)))
          (subst (λ x. IfWanted (λ a b. Sent a b (answers_of hs)) old.answers x) (sym stays) so_far.answered);
      refused_is = noted.refused ∙ ap (λ b. b || T.refuses told) so_far.refused_is ∙ sym (any_more T.refuses hs h);
      no_memory_is = noted.no_memory ∙ ap (λ b. b || T.lacks_memory told) so_far.no_memory_is ∙ sym (any_more T.lacks_memory hs h);
    }

-- the whole report
pub report_ended : {Kept Told : Type 0} {T : Teller Kept Told} {old : ReplaySeen Kept} {out : SinkSeen} {answers : Option SinkSeen} {e : Ending}
    {o : Outcome} (new : ReplaySeen Kept) (r : Result Outcome WriteFault) → InEnd T old out answers new e o
    → Finishes out new.report answers new.answers (last_lines_of T new e) r → IfOk r
    (λ x. x ≡ record o { refused = o.refused || T.has_rest new.state.1; fault = is_fault e })
    → IfOk r (IsReport T old new)
report_ended {Kept} {Told} {T} {old} {out} {answers} {e} {o} new (Ok x) end (wrote, flushed) is = record {
  handled = end.handled;
  ending = e;
  ends = end.ends;
  wrote = sent_then_flushed old.report out new.report (lines_from T 1 end.handled) (last_lines_of T new e) end.sent wrote;
  answered = sent_and_flushed old.answers answers new.answers (answers_of end.handled) end.answered flushed;
  outcome_is = outcome_same x (list_any T.refuses (told_of end.handled) || T.has_rest new.state.1) (list_any T.lacks_memory (told_of end.handled)) (is_fault e)
      (ap (λ y. y.refused) is ∙ ap (λ b. b || T.has_rest new.state.1) end.refused_is) (ap (λ y. y.no_memory) is ∙ end.no_memory_is)
      (ap (λ y. y.fault) is);
}
report_ended {Kept} {Told} {T} {old} {out} {answers} {e} {o} new (Err f) end finishes is = tt

-- the last line or a flush failed
pub report_cut : {Kept Told : Type 0} {T : Teller Kept Told} {old : ReplaySeen Kept} {out : SinkSeen} {answers : Option SinkSeen} {e : Ending}
    {o : Outcome} (new : ReplaySeen Kept) (r : Result Outcome WriteFault) → InEnd T old out answers new e o
    → Finishes out new.report answers new.answers (last_lines_of T new e) r → OnErr r (IsCutReport T old new)
report_cut {Kept} {Told} {T} {old} {out} {answers} {e} {o} new (Ok x) end finishes = tt
report_cut {Kept} {Told} {T} {old} {out} {answers} {e} {o} new (Err f) end (inl (broke, stays)) =
    let cut : IsCutAtEnd T old new = record {
      handled = end.handled;
      ending = e;
      ends = end.ends;
      mid = out;
      earlier = end.sent;
      broke = broke;
      answered = subst (λ x. IfWanted (λ a b. Sent a b (answers_of end.handled)) old.answers x) (sym stays) end.answered;
    } in
    inr (inr (inl cut))
report_cut {Kept} {Told} {T} {old} {out} {answers} {e} {o} new (Err f) end (inr (wrote, failed)) =
    let cut : IsCutInFlush T old new = record {
      handled = end.handled;
      ending = e;
      ends = end.ends;
      wrote = sent_then_flushed old.report out new.report (lines_from T 1 end.handled) (last_lines_of T new e) end.sent wrote;
      unflushed = sent_unflushed old.answers answers new.answers (answers_of end.handled) end.answered failed;
    } in
    inr (inr (inr cut))
