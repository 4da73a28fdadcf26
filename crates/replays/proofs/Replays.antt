-- The loop of a replay.
use Rattle.std.proofs.Common.{◌≡◌, ◌≤◌, ◌+◌, ◌++◌, ◌||◌, ℕ, Bool, true, false, List, [], ◌∷◌, length, Option, Some, None, Ok, Err, refl}
use Rattle.std.proofs.Common.{sym, ap, ◌∙◌, subst, inl, inr, arith}
use Rattle.std.specs.Prelude.{is_some}
use Rattle.std.specs.List.{list_any}
use Rattle.std.proofs.lemmas.List.{append-nil, length-append}
use Rattle.std.proofs.lemmas.Grind.{flat_map-append}
use Rattle.benc.specs.Device.{SourceSeen, Sent, Broke}
use Rattle.benc.proofs.Known.{Appends_nothing}
use Rattle.benc.proofs.Out.{Sent-append}
use Rattle.wire.proofs.RecordRuns.{frame_falls as record_falls, read_more}
use Rattle.wire.specs.declared.frame.Frame.{Frame}
use Rattle.wire.specs.declared.form.Form.{Form}
use Rattle.wire.specs.Records.{Directed}
use Rattle.replays.specs.declared.report.FrameReport.{FrameReport}
use Rattle.replays.specs.declared.report.Outcome.{Outcome}
use Rattle.replays.specs.Telling.{Teller}
use Rattle.replays.specs.TellingOf.{BeginsNext, NextReply, RespondsNext}
use Rattle.replays.specs.declared.report.Reply.{Reply}
use Rattle.lines.specs.declared.out_fault.OutFault.TheVariants as failed
use Rattle.replays.specs.Answering.{IfWanted, IsReply, Replies, reply_to}
use Rattle.replays.specs.Replay.{Answered, Beside, Handled, HandlesButLast, HandlesNext, IsCutInAnswer}
use Rattle.replays.specs.Replay.{IsCutInLine, IsCutReport, ReplaySeen}
use Rattle.replays.specs.Replay.{answers_of, lines_from, told_of, unanswered}
use Rattle.replays.proofs.Replies.{broke_after, hashes_answer_requests, meets_more, reply_same, none_sent, same_wanted, sent_more}
use Rattle.replays.proofs.MoreFrames.{next_lines, any_more}
use Rattle.replays.proofs.Sources.{SoFar, so_far_none, run_at, whole_so_far, replayed_of, so_far_more}

-- ---- the loop

pub flat_one : {Told : Type 0} (hs : List (Handled Told)) (h : Handled Told) → answers_of (hs ++ h ∷ []) ≡ answers_of hs ++ h.answer
flat_one {Told} hs h = flat_map-append (λ (x : Handled Told). x.answer) hs (h ∷ []) ∙ ap (λ t. answers_of hs ++ t) (append-nil h.answer)

-- a replay that has not ended, all of whose lines and answers went out
pub record InReplay {Kept Told : Type 0} (T : Teller Kept Told) (old new : ReplaySeen Kept) (known : Option Form) (number : ℕ) (outcome : Outcome)
    : Type 0 where
  pub handled : List (Handled Told)
  pub so_far : SoFar T old.cuts (is_some old.answers) known old.source new.source old.state new.state handled
  pub number_is : number ≡ length handled
  pub room : number + new.source.limit ≤ old.source.limit
  pub sent : Sent old.report new.report (lines_from T 1 handled)
  pub answered : Answered old new handled
  pub refused_is : outcome.refused ≡ list_any T.refuses (told_of handled)
  pub no_memory_is : outcome.no_memory ≡ list_any T.lacks_memory (told_of handled)
  pub no_fault : outcome.fault ≡ false

-- a frame takes a byte at least
pub frame_falls : {Kept Told : Type 0} {T : Teller Kept Told} {cuts : Bool} {mid new : SourceSeen} {known : Option Form} {form : Form} {x x' : Beside Kept}
    {told : Told} {r : Reply}
    → RespondsNext T cuts known form mid new x x' told r → new.limit + 1 ≤ mid.limit
frame_falls {Kept} {Told} {T} {cuts} {mid} {new} {known} {form} {x} {x'} {told} {r} next =
    omega (arith, record_falls mid new known form next.next.directed next.next.gave)

-- before the first frame
pub in_replay_none : {Kept Told : Type 0} (T : Teller Kept Told) (s : ReplaySeen Kept) (known : Option Form) (o : Outcome) → known ≡ None
    → o.refused ≡ false → o.no_memory ≡ false → o.fault ≡ false → InReplay T s s known 0 o
in_replay_none T s known o fresh refused no_memory no_fault = record {
  handled = [];
  so_far = subst (λ k. SoFar T s.cuts (is_some s.answers) k s.source s.source s.state s.state []) (sym fresh)
      (so_far_none T s.cuts (is_some s.answers) s.source s.state);
  number_is = refl;
  room = omega arith;
  sent = record { bytes = Appends_nothing s.report.written; faults = refl; flushes = refl };
  answered = none_sent s.answers;
  refused_is = refused;
  no_memory_is = no_memory;
  no_fault = no_fault;
}

-- the frame with the bytes of its answer
abbrev with_answer : {Told : Type 0} → Directed Frame → FrameReport → Told → List ℕ → Handled Told
with_answer f d told bytes = record { frame = f; report = d; told = told; answer = bytes }

answer_next : {Kept Told : Type 0} (T : Teller Kept Told) (cuts wanted : Bool) (known : Option Form) (form : Form) (old new : SourceSeen) (x x' : Beside Kept)
    (f : Directed Frame) (d : FrameReport) (told : Told) (bytes : List ℕ) → HandlesNext T cuts false known form old new x x' (unanswered f d told)
    → IsReply wanted x'.0 (reply_to f d) bytes → HandlesNext T cuts wanted known form old new x x' (with_answer f d told bytes)
answer_next T cuts wanted known form old new x x' f d told bytes next replies =
    let stepped = next.step.3 in
    let at : IsReply wanted stepped (reply_to f d) bytes = reply_same wanted (reply_to f d) stepped x'.0 bytes
    (λ ask is. T.stays f stepped x'.0 x.1 x'.1 told
    (subst (λ y. T.tells true f y stepped x.1 told x'.0 x'.1) (hashes_answer_requests f d ask is) next.step.5)) replies in
    record {
      directed = next.directed;
      gave = next.gave;
      step = (next.step.0, next.step.1, next.step.2, stepped, meets_more wanted form x.0 stepped f d bytes next.step.4 at, next.step.5);
    }

-- one more frame was handled, with this answer
handled_more : {Kept Told : Type 0} {T : Teller Kept Told} {old mid : ReplaySeen Kept} {known : Option Form} {form : Form} {n : ℕ} {o : Outcome} {told : Told}
    {r : Reply} (new : ReplaySeen Kept) (bytes : List ℕ) → (at : InReplay T old mid known n o)
    → (next : RespondsNext T old.cuts known form mid.source new.source mid.state new.state told r) → IsReply (is_some mid.answers) new.state.0 r bytes
    → SoFar T old.cuts (is_some old.answers) (Some form) old.source new.source old.state new.state
    (at.handled ++ with_answer next.frame next.report told bytes ∷ [])
handled_more {Kept} {Told} {T} {old} {mid} {known} {form} {n} {o} {told} {r} new bytes at next replies =
    let wanted : is_some mid.answers ≡ is_some old.answers = same_wanted (λ a b. Sent a b (answers_of at.handled)) old.answers mid.answers at.answered in
    let is : IsReply (is_some old.answers) new.state.0 (reply_to next.frame next.report) bytes =
    subst (λ x. IsReply (is_some old.answers) new.state.0 x bytes) next.reply_is (subst (λ w. IsReply w new.state.0 r bytes) wanted replies) in
    so_far_more T old.cuts (is_some old.answers) known form old.source mid.source new.source old.state mid.state new.state at.handled
    (with_answer next.frame next.report told bytes) at.so_far
    (answer_next T old.cuts (is_some old.answers) known form mid.source new.source mid.state new.state next.frame next.report told bytes next.next is)

-- the last frame was handled, as far as it was, and not answered
pub but_last : {Kept Told : Type 0} {T : Teller Kept Told} {old mid : ReplaySeen Kept} {known : Option Form} {form : Form} {n : ℕ} {o : Outcome} {told : Told}
    (new : ReplaySeen Kept) → (at : InReplay T old mid known n o)
    → (next : BeginsNext T old.cuts known form mid.source new.source mid.state new.state told)
    → HandlesButLast T old new at.handled (unanswered next.frame next.report told)
but_last {Kept} {Told} {T} {old} {mid} {known} {form} {n} {o} {told} new at next =
    let s = at.so_far in
    record {
      form = form;
      frames = s.frames;
      directed = next.directed;
      read = whole_so_far old.source new.source form (s.frames ++ next.directed ∷ []) (read_more old.source mid.source new.source known form s.frames
          next.directed s.read next.gave);
      state = mid.state;
      run = run_at T old.cuts (is_some old.answers) known form _ old.source mid.source new.source old.state mid.state s.frames at.handled s.read
          next.gave.part s.run;
      step = next.step;
      counted = next.gave.faults ∙ s.counted;
    }

-- a frame of which all was told
unfoldable pub begins_of : {Kept Told : Type 0} {T : Teller Kept Told} {cuts : Bool} {known : Option Form} {form : Form} {old new : SourceSeen}
    {x x' : Beside Kept}
    {told : Told} {r : Reply} → RespondsNext T cuts known form old new x x' told r → BeginsNext T cuts known form old new x x' told
begins_of {Kept} {Told} {T} {cuts} {known} {form} {old} {new} {x} {x'} {told} {r} next = record {
  frame = next.frame;
  report = next.report;
  directed = next.next.directed;
  gave = next.next.gave;
  step = (true, next.next.step.0, next.next.step.1, next.next.step.2, next.next.step.3, next.next.step.4, next.next.step.5);
}

-- after one more
pub in_replay_more : {Kept Told : Type 0} {T : Teller Kept Told} {old mid new : ReplaySeen Kept} {known known' : Option Form} {n : ℕ} {o o' : Outcome}
    (r : Reply) → InReplay T old mid known n o → NextReply T old.cuts n known known' mid new o o' (Ok r)
    → Replies new.state.0 r mid.answers new.answers (Ok tt) → InReplay T old new known' (n + 1) o'
in_replay_more {Kept} {Told} {T} {old} {mid} {new} {known} {known'} {n} {o} {o'} r so_far (form, known_is, told, next, wrote, noted) (bytes, replies, went) =
    let h : Handled Told = with_answer next.frame next.report told bytes in
    let hs = so_far.handled in
    let lines : lines_from T 1 (hs ++ h ∷ []) ≡ lines_from T 1 hs ++ T.lines (n + 1) told = next_lines T hs h n so_far.number_is in
    record {
      handled = hs ++ h ∷ [];
      so_far = subst (λ k. SoFar T old.cuts (is_some old.answers) k old.source new.source old.state new.state (hs ++ h ∷ [])) (sym known_is)
          (handled_more new bytes so_far next replies);
      number_is = omega (arith, so_far.number_is, length-append hs (h ∷ []));
      room = omega (arith, so_far.room, frame_falls next);
      sent = subst (Sent old.report new.report) (sym lines)
          (Sent-append old.report mid.report new.report (lines_from T 1 hs) (T.lines (n + 1) told) so_far.sent wrote);
      answered = subst (λ t. IfWanted (λ a b. Sent a b t) old.answers new.answers) (sym (flat_one hs h))
          (sent_more old.answers mid.answers new.answers (answers_of hs) bytes so_far.answered went);
      refused_is = noted.refused ∙ ap (λ b. b || T.refuses told) so_far.refused_is ∙ sym (any_more T.refuses hs h);
      no_memory_is = noted.no_memory ∙ ap (λ b. b || T.lacks_memory told) so_far.no_memory_is ∙ sym (any_more T.lacks_memory hs h);
      no_fault = noted.fault ∙ so_far.no_fault;
    }

-- the line of a frame did not go out whole
pub cut_in_line : {Kept Told : Type 0} {T : Teller Kept Told} {old mid : ReplaySeen Kept} {known : Option Form} {n : ℕ} {o : Outcome}
    (new : ReplaySeen Kept) → InReplay T old mid known n o
    → (form : Form) × (told : Told) × BeginsNext T old.cuts known form mid.source new.source mid.state new.state told
    × Broke mid.report new.report (T.lines (n + 1) told) → new.answers ≡ mid.answers → IsCutReport T old new
cut_in_line {Kept} {Told} {T} {old} {mid} {known} {n} {o} new so_far (form, told, next, wrote) stays =
    let hs = so_far.handled in
    let line : T.lines (n + 1) told ≡ T.lines (length hs + 1) told = ap (λ k. T.lines (k + 1) told) so_far.number_is in
    let cut : IsCutInLine T old new = record {
      before = hs;
      last = unanswered next.frame next.report told;
      handles = but_last new so_far next;
      broke = (mid.report, so_far.sent, subst (Broke mid.report new.report) line wrote);
      answered = subst (λ x. IfWanted (λ a b. Sent a b (answers_of hs)) old.answers x) (sym stays) so_far.answered;
    } in
    inl cut

-- an answer did not go out whole
pub cut_in_answer : {Kept Told : Type 0} {T : Teller Kept Told} {old mid : ReplaySeen Kept} {known known' : Option Form} {n : ℕ} {o o' : Outcome}
    (r : Reply) (new : ReplaySeen Kept) → InReplay T old mid known n o → NextReply T old.cuts n known known' mid new o o' (Ok r)
    → Replies new.state.0 r mid.answers new.answers (Err failed.Write) → IsCutReport T old new
cut_in_answer {Kept} {Told} {T} {old} {mid} {known} {known'} {n} {o} {o'} r new so_far (form, known_is, told, next, wrote, noted) (bytes, replies, broke) =
    let h : Handled Told = with_answer next.frame next.report told bytes in
    let hs = so_far.handled in
    let lines : lines_from T 1 (hs ++ h ∷ []) ≡ lines_from T 1 hs ++ T.lines (n + 1) told = next_lines T hs h n so_far.number_is in
    let cut : IsCutInAnswer T old new = record {
      before = hs;
      last = h;
      handles = replayed_of T (Some form) old new (hs ++ h ∷ []) (handled_more new bytes so_far next replies);
      lines = subst (Sent old.report new.report) (sym lines)
          (Sent-append old.report mid.report new.report (lines_from T 1 hs) (T.lines (n + 1) told) so_far.sent wrote);
      broke = broke_after old.answers mid.answers new.answers (answers_of hs) bytes so_far.answered broke;
    } in
    inr (inl cut)
