-- What a replay has read of its record, and how the record ends.
use Rattle.std.proofs.Common.{◌≡◌, ◌++◌, ℕ, Bool, List, [], ◌∷◌, Option, Some, None, refl}
use Rattle.std.proofs.Common.{sym, ap, ◌∙◌, subst}
use Rattle.std.specs.Prelude.{is_some}
use Rattle.std.proofs.lemmas.Option.{same_Some}
use Rattle.std.proofs.lemmas.List.Elements.{All-nil}
use Rattle.std.specs.Io.KnownBytes.{IsAtEnd}
use Rattle.benc.specs.Device.{SourceSeen}
use Rattle.wire.proofs.Giving.{Gave-nil}
use Rattle.wire.proofs.RecordParts.{later_part}
use Rattle.wire.proofs.RecordRuns.{HasRead, HasReadTo, cut-from_stop, cut-nothing, read_more, read_nothing, read_to}
use Rattle.wire.specs.declared.fault.FrameFault.{FrameFault}
use Rattle.wire.specs.declared.fault.FrameFault.TheVariants as fault
use Rattle.wire.specs.declared.form.Form.{Form}
use Rattle.wire.specs.declared.form.Form.TheVariants.{One, Two}
use Rattle.wire.specs.Reading.{Gave}
use Rattle.wire.specs.RecordReading.{EndsRecord, GavePart, StopsAt, StopsInRecord}
use Rattle.wire.specs.Records.{Directed, MayStand}
use Rattle.chains.specs.Chain.{Chain}
use Rattle.chains.proofs.Chains.{Chain-more}
use Rattle.replays.specs.declared.report.Ending.{Ending}
use Rattle.replays.specs.declared.report.Ending.TheVariants as ending
use Rattle.replays.specs.Telling.{Teller}
use Rattle.replays.specs.Replay.{Beside, GaveRecord, Handled, Handles, HandlesNext}
use Rattle.replays.specs.Replay.{IsEnding, CountsEnding, Replayed, ReplaySeen, FindsEnding}

-- ---- what a source gave

-- the steps so far, of a record whose form is known once a frame was asked for
abbrev RunsBy : {Kept Told : Type 0} → Teller Kept Told → Bool → Bool → Option Form → Beside Kept → List (Directed (List ℕ)) → List (Handled Told)
    → Beside Kept → Type 0
RunsBy T cuts wanted None S ds hs S' = (hs ≡ []) × (S' ≡ S)
RunsBy T cuts wanted (Some form) S ds hs S' = Chain (Handles T cuts wanted form) S ds hs S'

-- the frames so far, and what was made of them
pub record SoFar {Kept Told : Type 0} (T : Teller Kept Told) (cuts wanted : Bool) (known : Option Form) (old now : SourceSeen) (S S' : Beside Kept)
    (handled : List (Handled Told)) : Type 0 where
  pub frames : List (Directed (List ℕ))
  pub read : HasRead old now known frames
  pub run : RunsBy T cuts wanted known S frames handled S'
  pub counted : now.faults ≡ old.faults

pub so_far_none : {Kept Told : Type 0} (T : Teller Kept Told) (cuts wanted : Bool) (s : SourceSeen) (S : Beside Kept) → SoFar T cuts wanted None s s S S []
so_far_none T cuts wanted s S = record { frames = []; read = read_nothing s s refl; run = (refl, refl); counted = refl }

-- whichever form the next part has, the frames so far have it
pub run_at : {Kept Told : Type 0} (T : Teller Kept Told) (cuts wanted : Bool) (known : Option Form) (form : Form) (part : List ℕ) (a b c : SourceSeen)
    (S S' : Beside Kept) (ds : List (Directed (List ℕ))) (hs : List (Handled Told))
    → HasRead a b known ds → GavePart known form part b c → RunsBy T cuts wanted known S ds hs S' → Chain (Handles T cuts wanted form) S ds hs S'
run_at T cuts wanted None form part a b c S S' ds hs r p run =
    subst (λ xs. Chain (Handles T cuts wanted form) S xs hs S') (sym r.are.0) (subst (λ ys. Chain (Handles T cuts wanted form) S [] ys S') (sym run.0) run.1)
run_at T cuts wanted (Some k) form part a b c S S' ds hs r p run =
    subst (λ f. Chain (Handles T cuts wanted f) S ds hs S') (sym p.reads.0) run

nothing_read : (a b : SourceSeen) → b ≡ a → GaveRecord a b One [] []
nothing_read a b e = record {
  bytes = [];
  gave = subst (λ s. Gave a s []) (sym e) (Gave-nil a);
  whole = record { has_form = λ rest e. let no : ⊥ = cc in no; whole = refl; each = All-nil (MayStand One); cut = cut-nothing One };
}

-- out of memory before the first frame
pub replayed_nothing : {Kept Told : Type 0} (T : Teller Kept Told) (old new : ReplaySeen Kept) → new.source ≡ old.source → new.state ≡ old.state
    → Replayed T old new [] (Some (ending.Fault fault.NoMemory))
unfolding nothing_read
replayed_nothing T old new source session = record {
  form = One;
  frames = [];
  rest = [];
  read = nothing_read old.source new.source source;
  run = session;
  ended = refl;
  unread = λ e. refl;
  counted = ap (λ s. s.faults) source;
}

record_of : (a c : SourceSeen) (form : Form) (ds : List (Directed (List ℕ))) (part : List ℕ) → HasReadTo a c form ds part → GaveRecord a c form ds part
record_of a c form ds part t = record { bytes = t.bytes; gave = t.gave; whole = t.frames }

-- whole frames, and no more so far
pub whole_so_far : (a b : SourceSeen) (form : Form) (ds : List (Directed (List ℕ))) → HasRead a b (Some form) ds → GaveRecord a b form ds []
whole_so_far a b form ds r = record_of a b form ds [] (read_to a b b (Some form) form ds [] r (later_part form [] b b (Gave-nil b)) (cut-nothing form))

no_frames : (a b : SourceSeen) (ds : List (Directed (List ℕ))) → HasRead a b None ds → GaveRecord a b One [] []
no_frames a b ds r = record {
  bytes = [];
  gave = subst (Gave a b) r.are.1 r.gave;
  whole = record { has_form = λ rest e. let no : ⊥ = cc in no; whole = refl; each = All-nil (MayStand One); cut = cut-nothing One };
}

-- a replay that has not ended
pub replayed_of : {Kept Told : Type 0} (T : Teller Kept Told) (known : Option Form) (old now : ReplaySeen Kept) (hs : List (Handled Told))
    → SoFar T old.cuts (is_some old.answers) known old.source now.source
    old.state now.state hs → Replayed T old now hs None
replayed_of T None old now hs s = record {
  form = One;
  frames = [];
  rest = [];
  read = no_frames old.source now.source s.frames s.read;
  run = subst (λ ys. Chain (Handles T old.cuts (is_some old.answers) One) old.state [] ys now.state) (sym s.run.0) s.run.1;
  ended = refl;
  unread = λ e. let no : ⊥ = cc in absurd no;
  counted = s.counted;
}
replayed_of T (Some form) old now hs s = record {
  form = form;
  frames = s.frames;
  rest = [];
  read = whole_so_far old.source now.source form s.frames s.read;
  run = s.run;
  ended = refl;
  unread = λ e. let no : ⊥ = cc in absurd no;
  counted = s.counted;
}

-- one more frame
pub so_far_more : {Kept Told : Type 0} (T : Teller Kept Told) (cuts wanted : Bool) (known : Option Form) (form : Form) (old mid new : SourceSeen)
    (S S' S'' : Beside Kept) (hs : List (Handled Told)) (h : Handled Told)
    → SoFar T cuts wanted known old mid S S' hs → HandlesNext T cuts wanted known form mid new S' S'' h → SoFar T cuts wanted (Some form) old new S S''
    (hs ++ h ∷ [])
so_far_more T cuts wanted known form old mid new S S' S'' hs h s next = record {
  frames = s.frames ++ next.directed ∷ [];
  read = read_more old mid new known form s.frames next.directed s.read next.gave;
  run = Chain-more (Handles T cuts wanted form) S s.frames hs S' next.directed h S''
      (run_at T cuts wanted known form _ old mid new S S' s.frames hs s.read next.gave.part s.run) next.step;
  counted = next.gave.faults ∙ s.counted;
}

-- less than a frame, and then the end
pub replayed_ends : {Kept Told : Type 0} (T : Teller Kept Told) (known : Option Form) (old mid new : ReplaySeen Kept) (hs : List (Handled Told)) (e : Ending)
    → SoFar T old.cuts (is_some old.answers) known old.source mid.source old.state mid.state hs → FindsEnding known mid.source new.source e
    → new.state ≡ mid.state → Replayed T old new hs (Some e)
replayed_ends T known old mid new hs e s next stays = record {
  form = next.form;
  frames = s.frames;
  rest = next.part;
  read = record_of old.source new.source next.form s.frames next.part (read_to old.source mid.source new.source known next.form s.frames next.part s.read
      next.gave next.cut);
  run = subst (Chain (Handles T old.cuts (is_some old.answers) next.form) old.state s.frames hs) (sym stays)
      (run_at T old.cuts (is_some old.answers) known next.form next.part old.source mid.source new.source old.state mid.state s.frames hs s.read
      next.gave s.run);
  ended = next.ended;
  unread = λ is. absurd (next.had_room (same_Some e (ending.Fault fault.NoMemory) is));
  counted = subst (λ n. CountsEnding n new.source.faults (Some e)) s.counted next.counted;
}

-- the end of the source between two frames
pub finds_end : (known : Option Form) (form : Form) (old new : SourceSeen) → EndsRecord known form old new → FindsEnding known old new ending.End
finds_end known form old new e = record {
  form = form;
  part = [];
  gave = e.part;
  cut = cut-nothing form;
  ended = (refl, e.at_end);
  had_room = λ e. let no : ⊥ = cc in no;
  counted = e.faults;
}

fault_of : (a b : FrameFault) → ending.Fault a ≡ ending.Fault b → a ≡ b
fault_of a b e = cc

ended_fault : (form : Form) (new : SourceSeen) (part : List ℕ) (why : FrameFault) → StopsAt form part why → (why ≡ fault.Truncated → IsAtEnd new.left)
    → (why ≡ fault.NoMemory → ⊥) → IsEnding form new.left part (Some (ending.Fault why))
ended_fault form new part fault.Truncated s at_end room = (s.0, s.1, at_end refl)
ended_fault form new part fault.Read s at_end room = s
ended_fault form new part fault.NoMemory s at_end room = absurd (room refl)
ended_fault One new part fault.BadDirection s at_end room = absurd s
ended_fault Two new part fault.BadDirection s at_end room = (refl, s)

pub finds_fault : (known : Option Form) (old new : SourceSeen) (why : FrameFault) → StopsInRecord known old new why → (why ≡ fault.NoMemory → ⊥)
    → FindsEnding known old new (ending.Fault why)
finds_fault known old new why stop room = record {
  form = stop.form;
  part = stop.rest;
  gave = stop.part;
  cut = cut-from_stop stop.form stop.rest why stop.stops;
  ended = ended_fault stop.form new stop.rest why stop.stops stop.ended room;
  had_room = λ e. room (fault_of why fault.NoMemory e);
  counted = stop.faults;
}
