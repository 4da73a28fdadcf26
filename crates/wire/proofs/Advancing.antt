-- A reader that is asked for the next frame while it is open.
use Rattle.std.proofs.Common.{◌≡◌, ◌≤◌, ℕ, Bool, Result, sym, ◌∙◌}
use Rattle.std.specs.Global.{Vec}
use Rattle.benc.specs.Device.{SourceSeen}
use Rattle.wire.specs.Meaning.{max_kept}
use Rattle.wire.specs.Reader.{Advances, HasRoom, IsOpen, KeepsSource, ReadsNext, kept_len, room}
use Rattle.wire.specs.RecordReader.{AdvancesInRecord, ReadsNextInRecord, frame_reader}
use Rattle.wire.specs.declared.fault.FrameFault.{FrameFault}
use Rattle.wire.specs.declared.reader.FrameReader.{FrameReader}
use Rattle.wire.specs.declared.reader.State.{State}
use Rattle.wire.specs.declared.reader.State.TheVariants.{Open, Ended, Failed}
use Rattle.wire.specs.declared.record_reader.RecordReader.{RecordReader}

not_ended : (s : State) → s ≡ Open → s ≡ Ended → ⊥
not_ended s is other = let both : Open ≡ Ended = sym is ∙ other in cc

not_failed : (s : State) (why : FrameFault) → s ≡ Open → s ≡ Failed why → ⊥
not_failed s why is other = let both : Open ≡ Failed why = sym is ∙ other in cc

pub Advances-open : {S : Type 0} (seen : S → SourceSeen) (old new : FrameReader S (Vec ℕ)) (result : Result Bool FrameFault)
    → IsOpen old → ReadsNext seen old result new → KeepsSource old new → (kept_len old ≤ max_kept → kept_len new ≤ max_kept)
    → (HasRoom old → room new ≡ room old) → Advances seen old result new
Advances-open seen old new result is reads source bounded has_room = record {
  reads = λ _. reads;
  ended_again = λ other. absurd (not_ended old.state is other);
  failed_again = λ why other. absurd (not_failed old.state why is other);
  source = source;
  bounded = bounded;
  has_room = has_room;
}

pub AdvancesInRecord-open : {S : Type 0} (seen : S → SourceSeen) (old new : RecordReader S (Vec ℕ)) (result : Result Bool FrameFault)
    → IsOpen (frame_reader old) → ReadsNextInRecord seen old result new → KeepsSource (frame_reader old) (frame_reader new)
    → (kept_len (frame_reader old) ≤ max_kept → kept_len (frame_reader new) ≤ max_kept)
    → (HasRoom (frame_reader old) → room (frame_reader new) ≡ room (frame_reader old)) → AdvancesInRecord seen old result new
AdvancesInRecord-open seen old new result is reads source bounded has_room = record {
  reads = λ _. reads;
  ended_again = λ other. absurd (not_ended old.state is other);
  failed_again = λ why other. absurd (not_failed old.state why is other);
  source = source;
  bounded = bounded;
  has_room = has_room;
}
