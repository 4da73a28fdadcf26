-- What `replay` does with a record: the frames that its bytes hold, what is reported of each and
-- answered to it, and what of both goes out.
use Rattle.std.specs.Prelude.{◌≡◌, ◌≢◌, ◌⊎◌, ℕ, ◌+◌, ◌++◌, List, [], ◌∷◌, length, map, Option, Some, None, is_some, Bool, true, false}
use Rattle.std.specs.List.{flat_map}
use Rattle.std.specs.Io.KnownBytes.{IsAtEnd}
use Rattle.benc.specs.Device.{SourceSeen, SinkSeen, Sent, SentAndFlushed, BrokeOrUnflushed}
use Rattle.printing.specs.Cut.{BrokeAfter, Unflushed}
use Rattle.wire.specs.declared.fault.FrameFault.TheVariants as fault
use Rattle.wire.specs.declared.frame.Frame.{Frame}
use Rattle.wire.specs.declared.frame.Frame.TheVariants as frame
use Rattle.wire.specs.declared.form.Direction.TheVariants.{In, Out}
use Rattle.wire.specs.declared.form.Form.{Form}
use Rattle.wire.specs.declared.form.Form.TheVariants.{One, Two}
use Rattle.wire.specs.declared.message.Message.{Message}
use Rattle.wire.specs.Reading.{Gave, CountsRead}
use Rattle.wire.specs.RecordReading.{GaveFrame, GavePart, IsOtherStart, IsPart}
use Rattle.wire.specs.Records.{Directed, IsCut, MeansDirected, RecordFrames}
use Rattle.session.specs.declared.verdict.Verdict.{Verdict}
use Rattle.session.specs.declared.verdict.Verdict.TheVariants as verdict
use Rattle.chains.specs.Chain.{Chain}
use Rattle.session.specs.Noted.{IsSafeNotedStep}
use Rattle.session.specs.SafeStep.{IsSafeStep}
use Rattle.session.specs.Session.{SessionSeen}
use Rattle.opening.specs.Description.{Description}
use Rattle.padded.specs.Padding.{IsWithoutPadding}
use Rattle.replays.specs.declared.report.FrameReport.{FrameReport}
use Rattle.replays.specs.declared.report.FrameReport.TheVariants as frame_report
use Rattle.replays.specs.declared.report.Ending.{Ending}
use Rattle.replays.specs.declared.report.Ending.TheVariants as ending
use Rattle.replays.specs.declared.report.Outcome.{Outcome}
use Rattle.replays.specs.Answering.{Answers, IfWanted, IsWanted}
use Rattle.replays.specs.Telling.{Teller, outcome_of}

-- ---- one frame

-- what was made of one frame: as what it was handled, what the session's step for it reports, what
-- is told of it, in one line or more, and the bytes of its answer
pub record Handled (Told : Type 0) : Type 0 where
  pub frame : Directed Frame
  pub report : FrameReport
  pub told : Told
  pub answer : List ℕ

-- a frame with this report, of which this is told, and which is not answered
abbrev pub unanswered : {Told : Type 0} → Directed Frame → FrameReport → Told → Handled Told
unanswered f d told = record { frame = f; report = d; told = told; answer = [] }

-- a session, and what is kept beside it
abbrev pub Beside : Type 0 → Type 0
Beside Kept = SessionSeen × Kept

-- the session's step for a message of a record. In form 2 what we ask for is noted, and hashes are
-- taken in answer to it alone
abbrev pub StepsBy : Form → SessionSeen → Directed Message → Verdict → SessionSeen → Type 0
StepsBy One S x v S' = IsSafeStep S x.1 v S'
StepsBy Two S x v S' = IsSafeNotedStep S x v S'

-- the bytes of the answer to what came in, if answers are wanted; what went out is not answered
abbrev pub AnswersDirected : Bool → SessionSeen → Directed Message → List ℕ → Type 0
AnswersDirected wanted S (In, m) bytes = Answers wanted S m bytes
AnswersDirected wanted S (Out, m) bytes = bytes ≡ []

-- what is reported of a frame and answered to it, and the session's step for it
abbrev pub Meets : Bool → Form → SessionSeen → Directed Frame → FrameReport → List ℕ → SessionSeen
    → Type 0
Meets wanted form S (i, frame.Message m) d answer S' =
    (v : Verdict) × StepsBy form S (i, m) v S' × (d ≡ frame_report.Verdict v)
    × AnswersDirected wanted S (i, m) answer
Meets wanted form S (i, frame.BadSize id len) d answer S' =
    (d ≡ frame_report.BadFrame id len) × (answer ≡ []) × (S' ≡ S)

-- the frame as which a frame is handled: itself, or without the zeros behind the end of a file if
-- these are cut away
abbrev pub IsHandledAs : Description → Directed Frame → Bool → Directed Frame → Type 0
IsHandledAs t (i, frame.Message m) true f =
    (cut : Message) × IsWithoutPadding t m cut × (f ≡ (i, frame.Message cut))
IsHandledAs t (i, frame.Message m) false f = f ≡ (i, frame.Message m)
IsHandledAs t (i, frame.BadSize id len) cuts f = f ≡ (i, frame.BadSize id len)

-- a body was handled as the frame that it means, or as that without its padding, in the session's
-- state at that step
abbrev pub Handles : {Kept Told : Type 0} → Teller Kept Told → Bool → Bool → Form → Beside Kept
    → Directed (List ℕ) → Handled Told → Beside Kept → Type 0
Handles T cuts wanted form x d h x' = (f : Directed Frame) × MeansDirected d f
    × IsHandledAs x.0.torrent f cuts h.frame × (stepped : SessionSeen)
    × Meets wanted form x.0 h.frame h.report h.answer stepped
    × T.tells true h.frame h.report stepped x.1 h.told x'.0 x'.1

-- the same, of a frame that is not answered, and of which not all may have been told
abbrev pub Begins : {Kept Told : Type 0} → Teller Kept Told → Bool → Form → Beside Kept
    → Directed (List ℕ) → Handled Told → Beside Kept → Type 0
Begins T cuts form x d h x' = (whole : Bool) × (f : Directed Frame) × MeansDirected d f
    × IsHandledAs x.0.torrent f cuts h.frame × (stepped : SessionSeen)
    × Meets false form x.0 h.frame h.report [] stepped
    × T.tells whole h.frame h.report stepped x.1 h.told x'.0 x'.1

-- ---- the record

-- how the record ended, by what follows the last whole frame and by what the source has left
abbrev pub IsEnding : Form → Option (List ℕ) → List ℕ → Option Ending → Type 0
IsEnding form left rest None = rest ≡ []
IsEnding form left rest (Some ending.End) = (rest ≡ []) × IsAtEnd left
IsEnding form left rest (Some (ending.Fault fault.Truncated)) =
    IsPart form rest × (rest ≢ []) × IsAtEnd left
IsEnding form left rest (Some (ending.Fault fault.Read)) = IsPart form rest
IsEnding form left rest (Some (ending.Fault fault.NoMemory)) = rest ≡ []
IsEnding form left rest (Some (ending.Fault fault.BadDirection)) =
    (form ≡ Two) × IsOtherStart rest

-- the count of the source's faults grows by one at `fault Read`, and else stays
abbrev pub CountsEnding : ℕ → ℕ → Option Ending → Type 0
CountsEnding old new (Some (ending.Fault why)) = CountsRead old new why
CountsEnding old new e = new ≡ old

-- the source gave one more frame, and this was made of it
pub record HandlesNext {Kept Told : Type 0} (T : Teller Kept Told) (cuts wanted : Bool)
    (known : Option Form) (form : Form) (old new : SourceSeen) (x x' : Beside Kept)
    (h : Handled Told) : Type 0 where
  pub directed : Directed (List ℕ)
  pub gave : GaveFrame known form directed old new
  pub step : Handles T cuts wanted form x directed h x'

-- the source gave less than a frame, and the record ended so
pub record FindsEnding (known : Option Form) (old new : SourceSeen) (e : Ending) : Type 0 where
  pub form : Form
  pub part : List ℕ
  pub gave : GavePart known form part old new
  pub cut : IsCut form part
  pub ended : IsEnding form new.left part (Some e)
  pub had_room : e ≢ ending.Fault fault.NoMemory
  pub counted : CountsEnding old.faults new.faults (Some e)

-- from old to new the source gave a record of these frames, and then this rest
pub record GaveRecord (old new : SourceSeen) (form : Form) (frames : List (Directed (List ℕ)))
    (rest : List ℕ) : Type 0 where
  pub bytes : List ℕ
  pub gave : Gave old new bytes
  pub whole : RecordFrames bytes form frames rest

-- what callers see of a replay: whether padding is cut away, and all that it changes; there is a
-- sink for answers if they are wanted
pub record ReplaySeen (Kept : Type 0) : Type 0 where
  pub cuts : Bool
  pub source : SourceSeen
  pub state : Beside Kept
  pub report : SinkSeen
  pub answers : Option SinkSeen

-- the state of a replay, of the states of its parts
abbrev pub replay_seen : {Kept : Type 0} → Bool → SourceSeen → SessionSeen → Kept → SinkSeen
    → Option SinkSeen → ReplaySeen Kept
replay_seen cuts source session kept report answers = record {
  cuts = cuts;
  source = source;
  state = (session, kept);
  report = report;
  answers = answers;
}

-- The source gave the whole frames of which this was made, and then less than a frame; their
-- messages took the session from its old state to the new one, and were answered if answers are
-- wanted; and the record has ended so, if it has ended. Out of memory comes before anything is
-- read.
pub record Replayed {Kept Told : Type 0} (T : Teller Kept Told) (old new : ReplaySeen Kept)
    (handled : List (Handled Told)) (e : Option Ending) : Type 0 where
  pub form : Form
  pub frames : List (Directed (List ℕ))
  pub rest : List ℕ
  pub read : GaveRecord old.source new.source form frames rest
  pub run : Chain (Handles T old.cuts (is_some old.answers) form) old.state frames handled
      new.state
  pub ended : IsEnding form new.source.left rest e
  pub unread : e ≡ Some (ending.Fault fault.NoMemory) → read.bytes ≡ []
  pub counted : CountsEnding old.source.faults new.source.faults e

-- ---- the outputs

-- the lines of the frames from number n on
abbrev pub lines_from : {Kept Told : Type 0} → Teller Kept Told → ℕ → List (Handled Told) → List ℕ
lines_from T n [] = []
lines_from T n (h ∷ hs) = T.lines n h.told ++ lines_from T (n + 1) hs

-- all that is told
abbrev pub told_of : {Told : Type 0} → List (Handled Told) → List Told
told_of hs = map (λ h. h.told) hs

-- the answers, one after the other
abbrev pub answers_of : {Told : Type 0} → List (Handled Told) → List ℕ
answers_of hs = flat_map (λ h. h.answer) hs

-- these frames were handled, and the last one too, and nothing was answered to that one
pub record HandlesButLast {Kept Told : Type 0} (T : Teller Kept Told) (old new : ReplaySeen Kept)
    (before : List (Handled Told)) (last : Handled Told) : Type 0 where
  pub form : Form
  pub frames : List (Directed (List ℕ))
  pub directed : Directed (List ℕ)
  pub read : GaveRecord old.source new.source form (frames ++ directed ∷ []) []
  pub state : Beside Kept
  pub run : Chain (Handles T old.cuts (is_some old.answers) form) old.state frames before state
  pub step : Begins T old.cuts form state directed last new.state
  pub counted : new.source.faults ≡ old.source.faults

-- memory was refused for the answer to the last frame, a request for hashes that are known: nothing
-- of it went out, and that ends the report
pub record EndsUnanswered {Kept Told : Type 0} (T : Teller Kept Told) (old new : ReplaySeen Kept)
    (handled : List (Handled Told)) (e : Ending) : Type 0 where
  pub before : List (Handled Told)
  pub last : Handled Told
  pub all : handled ≡ before ++ last ∷ []
  pub handles : HandlesButLast T old new before last
  pub report_is : last.report ≡ frame_report.Verdict verdict.Answered
  pub wanted : is_some old.answers ≡ true
  pub ending_is : e ≡ ending.Fault fault.NoMemory

-- these frames were handled, and the report ends so: as the record does, or out of memory for an
-- answer
abbrev pub Ends : {Kept Told : Type 0} → Teller Kept Told → ReplaySeen Kept → ReplaySeen Kept
    → List (Handled Told) → Ending → Type 0
Ends T old new handled e = Replayed T old new handled (Some e) ⊎ EndsUnanswered T old new handled e

-- the answers to these frames went out, if answers are wanted
abbrev pub Answered : {Kept Told : Type 0} → ReplaySeen Kept → ReplaySeen Kept
    → List (Handled Told) → Type 0
Answered old new handled = IfWanted (λ a b. Sent a b (answers_of handled)) old.answers new.answers

-- the last lines: of what is kept at the end, and how the record ended
abbrev pub last_lines_of : {Kept Told : Type 0} → Teller Kept Told → ReplaySeen Kept → Ending
    → List ℕ
last_lines_of T s e = T.rest s.state.1 ++ T.ending e

-- the report of the whole record went out, and all answers, each with one flush; and the outcome is
-- what its lines amount to
pub record IsReport {Kept Told : Type 0} (T : Teller Kept Told) (old new : ReplaySeen Kept)
    (outcome : Outcome) : Type 0 where
  pub handled : List (Handled Told)
  pub ending : Ending
  pub ends : Ends T old new handled ending
  pub wrote : SentAndFlushed old.report new.report
      (lines_from T 1 handled ++ last_lines_of T new ending)
  pub answered : IfWanted (λ a b. SentAndFlushed a b (answers_of handled)) old.answers new.answers
  pub outcome_is : outcome ≡ outcome_of T (told_of handled) new.state.1 ending

-- the lines of the last frame broke off, and it was not answered
pub record IsCutInLine {Kept Told : Type 0} (T : Teller Kept Told) (old new : ReplaySeen Kept)
    : Type 0 where
  pub before : List (Handled Told)
  pub last : Handled Told
  pub handles : HandlesButLast T old new before last
  pub broke : BrokeAfter (lines_from T 1 before) (T.lines (length before + 1) last.told)
      old.report new.report
  pub answered : Answered old new before

-- the lines of all frames went out, and the answer to the last one broke off
pub record IsCutInAnswer {Kept Told : Type 0} (T : Teller Kept Told) (old new : ReplaySeen Kept)
    : Type 0 where
  pub before : List (Handled Told)
  pub last : Handled Told
  pub handles : Replayed T old new (before ++ last ∷ []) None
  pub lines : Sent old.report new.report (lines_from T 1 (before ++ last ∷ []))
  pub broke : IsWanted (BrokeAfter (answers_of before) last.answer) old.answers new.answers

-- the last line or its flush failed, after all answers
pub record IsCutAtEnd {Kept Told : Type 0} (T : Teller Kept Told) (old new : ReplaySeen Kept)
    : Type 0 where
  pub handled : List (Handled Told)
  pub ending : Ending
  pub ends : Ends T old new handled ending
  pub mid : SinkSeen
  pub earlier : Sent old.report mid (lines_from T 1 handled)
  pub broke : BrokeOrUnflushed mid new.report (last_lines_of T new ending)
  pub answered : Answered old new handled

-- the whole report went out, and the flush of the answers failed
pub record IsCutInFlush {Kept Told : Type 0} (T : Teller Kept Told) (old new : ReplaySeen Kept)
    : Type 0 where
  pub handled : List (Handled Told)
  pub ending : Ending
  pub ends : Ends T old new handled ending
  pub wrote : SentAndFlushed old.report new.report
      (lines_from T 1 handled ++ last_lines_of T new ending)
  pub unflushed : IsWanted (Unflushed (answers_of handled)) old.answers new.answers

-- The report did not go out whole, or the answers did not: no frame after that was read. A line
-- goes out before its answer.
abbrev pub IsCutReport : {Kept Told : Type 0} → Teller Kept Told → ReplaySeen Kept
    → ReplaySeen Kept → Type 0
IsCutReport T old new = IsCutInLine T old new ⊎ (IsCutInAnswer T old new
    ⊎ (IsCutAtEnd T old new ⊎ IsCutInFlush T old new))
