-- What one frame amounts to, of its parts.
use Rattle.std.proofs.Common.{◌≡◌, ◌+◌, Bool, false, true, List, [], Option, Some, None, Ok, ℕ}
use Rattle.benc.specs.Device.{Broke, Sent, SinkSeen, SourceSeen}
use Rattle.wire.specs.declared.form.Form.{Form}
use Rattle.wire.specs.declared.frame.Frame.{Frame}
use Rattle.wire.specs.RecordReading.{GaveFrame}
use Rattle.wire.specs.Records.{Directed, MeansDirected}
use Rattle.session.specs.Session.{SessionSeen}
use Rattle.replays.specs.declared.report.FrameReport.{FrameReport}
use Rattle.replays.specs.declared.report.Outcome.{Outcome}
use Rattle.replays.specs.declared.report.Reply.{Reply}
use Rattle.replays.specs.Answering.{reply_to}
use Rattle.replays.specs.Telling.{Teller}
use Rattle.replays.specs.TellingOf.{BeginsNext, IsOutcomeAfter, NextReply}
use Rattle.replays.specs.Replay.{IsHandledAs, Meets, replay_seen}

-- the source gave one more frame, and the session made this step for it
pub record MeetsNext (cuts : Bool) (known known' : Option Form) (old new : SourceSeen) (S : SessionSeen) (f : Directed Frame) (d : FrameReport)
    (stepped : SessionSeen) : Type 0 where
  pub form : Form
  pub known_is : known' ≡ Some form
  pub directed : Directed (List ℕ)
  pub gave : GaveFrame known form directed old new
  pub given : Directed Frame
  pub means : MeansDirected directed given
  pub handled : IsHandledAs S.torrent given cuts f
  pub meets : Meets false form S f d [] stepped

-- all was told of it
module _ {Kept Told : Type 0} {T : Teller Kept Told} {cuts : Bool} (n : ℕ) {known known' : Option Form} {s s' : SourceSeen} {S S' stepped : SessionSeen}
    {k k' : Kept} {a b : SinkSeen} {o o' : Outcome} {f : Directed Frame} {d : FrameReport} (met : MeetsNext cuts known known' s s' S f d stepped) where
  pub told_next : (r : Reply)
      → (told : Told) × T.tells true f d stepped k told S' k' × Sent a b (T.lines (n + 1) told) × IsOutcomeAfter T o told o' → r ≡ reply_to f d
      → NextReply T cuts n known known' (replay_seen cuts s S k a None) (replay_seen cuts s' S' k' b None) o o' (Ok r)
  told_next r (told, tells, sent, noted) is = (
    met.form,
    met.known_is,
    told,
    record {
      frame = f;
      report = d;
      next = record { directed = met.directed; gave = met.gave; step = (met.given, met.means, met.handled, stepped, met.meets, tells) };
      reply_is = is;
    },
    sent,
    noted,
  )

-- its lines broke off
module _ {Kept Told : Type 0} {T : Teller Kept Told} {cuts : Bool} (n : ℕ) {known known' : Option Form} {s s' : SourceSeen} {S S' stepped : SessionSeen}
    {k k' : Kept} {a b : SinkSeen} {f : Directed Frame} {d : FrameReport} (met : MeetsNext cuts known known' s s' S f d stepped) where
  pub broke_next : (told : Told) × (whole : Bool) × T.tells whole f d stepped k told S' k' × Broke a b (T.lines (n + 1) told)
      → (form : Form) × (told : Told) × BeginsNext T cuts known form s s' (S, k) (S', k') told × Broke a b (T.lines (n + 1) told)
  broke_next (told, whole, tells, broke) = (
    met.form,
    told,
    record {
      frame = f;
      report = d;
      directed = met.directed;
      gave = met.gave;
      step = (whole, met.given, met.means, met.handled, stepped, met.meets, tells);
    },
    broke,
  )
