-- What is told of each frame of a replay, without what the replay keeps beside it.
use Rattle.std.proofs.Common.{◌≡◌, ℕ, ◌+◌, false, true, List, [], ◌∷◌, ◌++◌, None, Some, inl, inr, refl, sym, ap, subst}
use Rattle.benc.specs.Device.{SinkSeen, SourceSeen, SentAndFlushed}
use Rattle.chains.specs.Chain.{Chain}
use Rattle.chains.proofs.Chains.{Chain-each}
use Rattle.lines.specs.Texts.{text_of}
use Rattle.opening.specs.Description.{Description}
use Rattle.replays.specs.Replay.{AnswersDirected, Beside, Ends, Handled, Handles, IsHandledAs, IsReport, Meets, ReplaySeen, Replayed, replay_seen, told_of}
use Rattle.replays.specs.Replay.{lines_from as handled_lines}
use Rattle.replays.specs.ReplayRows.{ending_row, lines_as}
use Rattle.replays.specs.Telling.{plain_as}
use Rattle.replays.specs.declared.report.Outcome.{Outcome}
use Rattle.session.specs.Session.{SessionSeen}
use Rattle.uses.specs.Records.{IsReportOf, frame_lines_from}
use Rattle.wire.specs.Records.{Directed, MeansDirected}
use Rattle.wire.specs.declared.form.Direction.TheVariants.{In, Out}
use Rattle.wire.specs.declared.form.Form.{Form}
use Rattle.wire.specs.declared.frame.Frame.{Frame}
use Rattle.wire.specs.declared.frame.Frame.TheVariants as frame
use Rattle.wire.specs.declared.message.Message.{Message}

-- nothing is cut away
same-frame : (t : Description) (f g : Directed Frame) → IsHandledAs t f false g → g ≡ f
same-frame t (i, frame.Message m) g is = is
same-frame t (i, frame.BadSize id len) g is = is

-- nothing is answered
no-answer : (S : SessionSeen) (x : Directed Message) → AnswersDirected false S x []
no-answer S (In, m) = refl
no-answer S (Out, m) = refl

unanswered : (form : Form) (S : SessionSeen) (f : Directed Frame) (d : _) (answer : List ℕ) (S' : SessionSeen) → Meets false form S f d answer S'
    → Meets false form S f d [] S'
unanswered form S (i, frame.Message m) d answer S' (v, steps, is, answers) = (v, steps, is, no-answer S (i, m))
unanswered form S (i, frame.BadSize id len) d answer S' (is, none, stays) = (is, refl, stays)

reported : (form : Form) (x : Beside (Unit {0})) (body : Directed (List ℕ)) (h : Handled _) (x' : Beside (Unit {0}))
    → Handles (plain_as text_of) false false form x body h x'
    → (f : Directed Frame) × MeansDirected body f × Meets false form x.0 f h.told [] x'.0
reported form x body h x' (f, means, handled, stepped, meets, (told, stays)) =
    let same : h.frame ≡ f = same-frame x.0.torrent f h.frame handled in
    let of_f : Meets false form x.0 f h.report [] stepped =
    subst (λ g. Meets false form x.0 g h.report [] stepped) same (unanswered form x.0 h.frame h.report h.answer stepped meets) in
    let of_told : Meets false form x.0 f h.told [] stepped = subst (λ d. Meets false form x.0 f d [] stepped) (sym told) of_f in
    (f, means, subst (λ T. Meets false form x.0 f h.told [] T) (sym stays) of_told)

all-reported : (form : Form) (x : Beside (Unit {0})) (bodies : List (Directed (List ℕ))) (hs : List (Handled _)) (x' : Beside (Unit {0}))
    → Chain (Handles (plain_as text_of) false false form) x bodies hs x'
    → Chain (λ S body d S'. (f : Directed Frame) × MeansDirected body f × Meets false form S f d [] S') x.0 bodies (told_of hs) x'.0
all-reported form = Chain-each (Handles (plain_as text_of) false false form)
    (λ x bodies hs x'. Chain (λ S body d S'. (f : Directed Frame) × MeansDirected body f × Meets false form S f d [] S') x.0 bodies (told_of hs) x'.0)
    (λ x. refl) (λ x body h mid bodies hs x' step rest later. (mid.0, reported form x body h mid step, later))

same-lines : (n : ℕ) (hs : List (Handled _)) → handled_lines (plain_as text_of) n hs ≡ frame_lines_from (lines_as text_of) n (told_of hs)
same-lines n [] = refl
same-lines n (h ∷ hs) = ap (λ rest. lines_as text_of n h.told ++ rest) (same-lines (n + 1) hs)

-- the report of a replay that answers nothing
module _ (source source' : SourceSeen) (S S' : SessionSeen) (out out' : SinkSeen) where
  abbrev old : ReplaySeen (Unit {0})
  old = replay_seen false source S tt out None

  abbrev new : ReplaySeen (Unit {0})
  new = replay_seen false source' S' tt out' None

  replayed : (handled : List (Handled _)) (e : _) → Ends (plain_as text_of) old new handled e → Replayed (plain_as text_of) old new handled (Some e)
  replayed handled e (inl ends) = ends
  replayed handled e (inr unanswered) = absurd (none-wanted unanswered.wanted)
    where
      none-wanted : false ≡ true → ⊥
      none-wanted e = cc

  pub is-report : (outcome : Outcome) → IsReport (plain_as text_of) old new outcome → IsReportOf source source' S S' out out'
  is-report outcome r =
      let ends = replayed r.handled r.ending r.ends in
      record {
        form = ends.form;
        frames = ends.frames;
        rest = ends.rest;
        came = ends.read;
        reported = (
          told_of r.handled,
          r.ending,
          all-reported ends.form (S, tt) ends.frames r.handled (S', tt) ends.run,
          ends.ended,
          subst (λ lines. SentAndFlushed out out' (lines ++ text_of (ending_row r.ending))) (same-lines 1 r.handled) r.wrote,
        );
      }
