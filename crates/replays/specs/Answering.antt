-- What `replay` answers to the hash requests of a record (BEP 52, "hash request", "hashes", "hash
-- reject"), and how the answers go out.
use Rattle.std.proofs.Common.{inl, inr}
use Rattle.std.specs.Prelude.{◌≡◌, ◌⊎◌, ℕ, ◌≤◌, List, [], length, Option, Some, None, option_map, is_some, Bool, true, false, Result, Ok, Err}
use Rattle.std.specs.Borrow.{Bor, MutBor}
use Rattle.benc.specs.Device.{SinkSeen, Sent, Broke, SentAndFlushed, BrokeOrUnflushed}
use Rattle.printing.specs.Cut.{FailedFlush, Flushed}
use Rattle.wire.specs.declared.form.Direction.TheVariants.{In}
use Rattle.wire.specs.declared.frame.Frame.{Frame}
use Rattle.wire.specs.declared.frame.Frame.TheVariants as frame
use Rattle.wire.specs.declared.message.Ask.{Ask}
use Rattle.wire.specs.declared.message.Message.{Message}
use Rattle.wire.specs.declared.message.Message.TheVariants as message
use Rattle.wire.specs.Frames.{IsBody}
use Rattle.wire.specs.Frames as stream
use Rattle.wire.specs.Meaning.{MeansMessage}
use Rattle.wire.specs.Records.{Directed}
use Rattle.wire.specs.Writable.{max_hashes}
use Rattle.node_maps.specs.Digest.{Hash}
use Rattle.partial_tree.specs.declared.answer.Answer.{Answer}
use Rattle.partial_tree.specs.declared.answer.Answer.TheVariants as answer
use Rattle.session.specs.declared.verdict.Verdict.{Verdict}
use Rattle.session.specs.declared.verdict.Verdict.TheVariants as verdict
use Rattle.session.specs.Answers.{IsAnswerTo}
use Rattle.session.specs.Session.{SessionSeen}
use Rattle.replays.specs.declared.report.FrameReport.{FrameReport}
use Rattle.replays.specs.declared.report.FrameReport.TheVariants as frame_report
use Rattle.replays.specs.declared.report.Reply.{Reply}
use Rattle.replays.specs.declared.report.Reply.TheVariants as reply
use Rattle.lines.specs.declared.out_fault.OutFault.{OutFault}
use Rattle.lines.specs.declared.out_fault.OutFault.TheVariants as failed

-- ---- one answer

-- the bytes are the frame of a message
abbrev pub IsMessageFrame : Message → List ℕ → Type 0
IsMessageFrame m bytes =
    (body : List ℕ) × IsBody body × MeansMessage body m × (bytes ≡ stream.frame body)

-- the frame of an answer: of a hashes message, or of a reject
abbrev pub IsAnswerFrame : Ask → Answer → List ℕ → Type 0
IsAnswerFrame ask (answer.Hashes hashes) bytes =
    (lent : Bor (List Hash)) × (lent.now ≡ hashes.items)
    × IsMessageFrame (message.Hashes ask lent) bytes
IsAnswerFrame ask answer.Reject bytes = IsMessageFrame (message.Reject ask) bytes

-- the answer fits a frame
abbrev pub HasFewHashes : Answer → Type 0
HasFewHashes (answer.Hashes hashes) = length hashes.items ≤ max_hashes
HasFewHashes answer.Reject = Unit {0}

-- the frame that answers a request in this state: of the hashes that are asked for, if they are
-- known, and else of a reject
abbrev pub AnswersAsk : SessionSeen → Ask → List ℕ → Type 0
AnswersAsk S ask bytes = (given : Answer) × IsAnswerTo S ask given × IsAnswerFrame ask given bytes

-- the bytes of the answer to a message, if answers are wanted; only a request is answered
abbrev pub Answers : Bool → SessionSeen → Message → List ℕ → Type 0
Answers true S (message.Request ask) bytes = AnswersAsk S ask bytes
Answers true S m bytes = bytes ≡ []
Answers false S m bytes = bytes ≡ []

-- what is to be answered to a message with this verdict
abbrev pub reply_of : Message → Verdict → Reply
reply_of (message.Request ask) verdict.Answered = reply.Hashes ask
reply_of (message.Request ask) verdict.Rejected = reply.Reject ask
reply_of m v = reply.Nothing

-- what is to be answered to a frame with this report; what went out is not answered
abbrev pub reply_to : Directed Frame → FrameReport → Reply
reply_to (In, frame.Message m) (frame_report.Verdict v) = reply_of m v
reply_to f d = reply.Nothing

-- the bytes of what is to be answered, if answers are wanted
abbrev pub IsReply : Bool → SessionSeen → Reply → List ℕ → Type 0
IsReply true S (reply.Hashes ask) bytes = AnswersAsk S ask bytes
IsReply true S (reply.Reject ask) bytes = IsMessageFrame (message.Reject ask) bytes
IsReply true S reply.Nothing bytes = bytes ≡ []
IsReply false S r bytes = bytes ≡ []

-- ---- the sink of the answers, if there is one

-- this happened to the sink, if there is one
abbrev pub IfWanted : (SinkSeen → SinkSeen → Type 0) → Option SinkSeen → Option SinkSeen → Type 0
IfWanted Happens None new = new ≡ None
IfWanted Happens (Some old) None = ⊥
IfWanted Happens (Some old) (Some new) = Happens old new

-- there is a sink, and this happened to it
abbrev pub IsWanted : (SinkSeen → SinkSeen → Type 0) → Option SinkSeen → Option SinkSeen → Type 0
IsWanted Happens None new = ⊥
IsWanted Happens (Some old) None = ⊥
IsWanted Happens (Some old) (Some new) = Happens old new

-- The answer went out whole, if answers are wanted; or a prefix of it, and the sink failed; or
-- nothing of it, since memory was refused for the hashes.
abbrev pub Replies : SessionSeen → Reply → Option SinkSeen → Option SinkSeen
    → Result (Unit {0}) OutFault → Type 0
Replies S r old new (Ok u) = (bytes : List ℕ) × IsReply (is_some old) S r bytes
    × IfWanted (λ a b. Sent a b bytes) old new
Replies S r old new (Err failed.Write) = (bytes : List ℕ) × IsReply (is_some old) S r bytes
    × IsWanted (λ a b. Broke a b bytes) old new
Replies S r old new (Err failed.NoMemory) =
    (new ≡ old) × (is_some old ≡ true) × (ask : Ask) × (r ≡ reply.Hashes ask)

-- the flush of the answers
abbrev pub Flushes : {A E : Type 0} → Option SinkSeen → Option SinkSeen → Result A E → Type 0
Flushes old new (Ok u) = IfWanted Flushed old new
Flushes old new (Err e) = IsWanted FailedFlush old new

-- The last line went out and was flushed, and then the answers were; or the last line or its flush
-- failed, and nothing happened to the answers; or only their flush failed.
abbrev pub Finishes : {A E : Type 0} → SinkSeen → SinkSeen → Option SinkSeen → Option SinkSeen
    → List ℕ → Result A E → Type 0
Finishes old new answers answers' line (Ok u) =
    SentAndFlushed old new line × IfWanted Flushed answers answers'
Finishes old new answers answers' line (Err e) =
    (BrokeOrUnflushed old new line × (answers' ≡ answers))
    ⊎ (SentAndFlushed old new line × IsWanted FailedFlush answers answers')

-- what callers see, before a call, of a sink that may be left out
abbrev pub sink_before : {A : Type 0} → (A → SinkSeen) → Option (MutBor A) → Option SinkSeen
sink_before seen out = option_map (λ a. seen a.now) out

-- what callers see, after a call, of a sink that may be left out
abbrev pub sink_after : {A : Type 0} → (A → SinkSeen) → Unit {0} ⊎ ((MutBor A × Unit {0}) ⊎ ⊥)
    → Option SinkSeen
sink_after seen (inl u) = None
sink_after seen (inr (inl out)) = Some (seen out.0.now)
sink_after seen (inr (inr nothing)) = None
