-- What a call that tells a frame does.
use Rattle.std.specs.Prelude.{◌≡◌, ◌||◌, ◌+◌, ℕ, Bool, true, false, List, Option, Some, Result, Ok, Err}
use Rattle.benc.specs.Device.{SourceSeen, SinkSeen, Sent, Broke}
use Rattle.wire.specs.declared.form.Form.{Form}
use Rattle.wire.specs.declared.frame.Frame.{Frame}
use Rattle.wire.specs.RecordReading.{GaveFrame}
use Rattle.wire.specs.Records.{Directed}
use Rattle.replays.specs.declared.report.FrameReport.{FrameReport}
use Rattle.replays.specs.declared.report.Outcome.{Outcome}
use Rattle.replays.specs.declared.report.Reply.{Reply}
use Rattle.replays.specs.declared.report.Stop.{Stop}
use Rattle.replays.specs.declared.report.Stop.TheVariants as stop
use Rattle.replays.specs.Telling.{Teller}
use Rattle.replays.specs.Answering.{reply_to}
use Rattle.replays.specs.Replay.{Begins, Beside, FindsEnding, HandlesNext, ReplaySeen, unanswered}

-- the source gave one more frame, of which this was made, and to which that is to be answered
pub record RespondsNext {Kept Told : Type 0} (T : Teller Kept Told) (cuts : Bool)
    (known : Option Form) (form : Form) (old new : SourceSeen) (x x' : Beside Kept) (told : Told)
    (r : Reply) : Type 0 where
  pub frame : Directed Frame
  pub report : FrameReport
  pub next : HandlesNext T cuts false known form old new x x' (unanswered frame report told)
  pub reply_is : r ≡ reply_to frame report

-- the source gave one more frame, of which this much was made
pub record BeginsNext {Kept Told : Type 0} (T : Teller Kept Told) (cuts : Bool)
    (known : Option Form) (form : Form) (old new : SourceSeen) (x x' : Beside Kept) (told : Told)
    : Type 0 where
  pub frame : Directed Frame
  pub report : FrameReport
  pub directed : Directed (List ℕ)
  pub gave : GaveFrame known form directed old new
  pub step : Begins T cuts form x directed (unanswered frame report told) x'

-- the outcome after this was told
pub record IsOutcomeAfter {Kept Told : Type 0} (T : Teller Kept Told) (old : Outcome) (told : Told)
    (new : Outcome) : Type 0 where
  pub refused : new.refused ≡ (old.refused || T.refuses told)
  pub no_memory : new.no_memory ≡ (old.no_memory || T.lacks_memory told)
  pub fault : new.fault ≡ old.fault

-- all was told of a frame, and its lines went out; or they broke off, and this much was told
abbrev pub TellsFrame : {Kept Told A E : Type 0} → Teller Kept Told → ℕ → Directed Frame
    → FrameReport → Beside Kept → Beside Kept → SinkSeen → SinkSeen → Outcome → Outcome
    → Result A E → Type 0
TellsFrame {Kept} {Told} T n f d x x' out out' o o' (Ok u) = (told : Told)
    × T.tells true f d x.0 x.1 told x'.0 x'.1 × Sent out out' (T.lines n told)
    × IsOutcomeAfter T o told o'
TellsFrame {Kept} {Told} T n f d x x' out out' o o' (Err e) = (told : Told) × (whole : Bool)
    × T.tells whole f d x.0 x.1 told x'.0 x'.1 × Broke out out' (T.lines n told)

-- the lines of what is kept went out, and whether there is any; or they broke off
abbrev pub TellsRest : {Kept Told E : Type 0} → Teller Kept Told → Kept → SinkSeen → SinkSeen
    → Result Bool E → Type 0
TellsRest T k out out' (Ok some) = Sent out out' (T.rest k) × (some ≡ T.has_rest k)
TellsRest T k out out' (Err e) = Broke out out' (T.rest k)

-- after n frames one more was told, and this is to be answered to it; or the record has ended so,
-- and nothing changed; or the lines of that frame broke off
abbrev pub NextReply : {Kept Told : Type 0} → Teller Kept Told → Bool → ℕ → Option Form
    → Option Form → ReplaySeen Kept → ReplaySeen Kept → Outcome → Outcome → Result Reply Stop
    → Type 0
NextReply {Kept} {Told} T cuts n known known' old new o o' (Ok r) =
    (form : Form) × (known' ≡ Some form) × (told : Told)
    × RespondsNext T cuts known form old.source new.source old.state new.state told r
    × Sent old.report new.report (T.lines (n + 1) told) × IsOutcomeAfter T o told o'
NextReply T cuts n known known' old new o o' (Err (stop.Ended e)) =
    FindsEnding known old.source new.source e × (new.state ≡ old.state)
    × (new.report ≡ old.report) × (o' ≡ o)
NextReply {Kept} {Told} T cuts n known known' old new o o' (Err stop.Write) =
    (form : Form) × (told : Told)
    × BeginsNext T cuts known form old.source new.source old.state new.state told
    × Broke old.report new.report (T.lines (n + 1) told)
