-- All frames of a report, one after the other: what is told to be proved of one has come by then.
use Rattle.std.proofs.Common.{◌≡◌, ℕ, zero, suc, ◌+◌, Bool, true, false, List, [], ◌∷◌, ◌++◌, Option, Some, None, is_some, inl, inr, refl, sym, ap, ◌∙◌}
use Rattle.std.proofs.Common.{subst, arith}
use Rattle.std.specs.Prelude.{slice_get}
use Rattle.std.specs.FinMap.{empty}
use Rattle.std.proofs.lemmas.Option.{none-some, same_Some}
use Rattle.chains.specs.Chain.{Chain}
use Rattle.chains.proofs.Chains.{Chain-more, Chain-weaker, Chain-within}
use Rattle.opening.specs.Description.{Description}
use Rattle.session.specs.Session.{SessionSeen, HasClosedTrees}
use Rattle.wire.specs.declared.form.Form.{Form}
use Rattle.wire.specs.Records.{Directed}
use Rattle.holdings.specs.declared.run.Run.{Run}
use Rattle.holdings.specs.Holdings.{HoldingsSeen}
use Rattle.replays.specs.ByPieces.{TellsByPieces, by_pieces_as}
use Rattle.replays.specs.Replay.{Begins, Beside, Ends, Handles, HandlesButLast, IsCutReport, ReplaySeen, Replayed}
use Rattle.replays.specs.ProvedLines.{AllProvedCame, CutLinesCame, FrameTold, HaveCome, IsToldOfFrame, ProvedFramesCame, ProvedLinesCame, frames_of, proved_of}
use Rattle.replay_laws.proofs.Entries.{CameBefore}
use Rattle.replay_laws.proofs.Holding.{AreOfCame, none-held}
use Rattle.replay_laws.proofs.OneFrame.{FrameKeeps, frame-keeps}
use Rattle.replay_laws.proofs.Staying.{Stays, meets-stay, stays-same, stays-then, tells-stay}

-- the session made its step for a frame, and then this was told of it, or as much as went out
abbrev pub Goes : Beside HoldingsSeen → Directed (List ℕ) → FrameTold → Beside HoldingsSeen → Type 0
Goes x d h x' = (whole : Bool) × (stepped : SessionSeen) × Stays x.0 stepped × TellsByPieces whole h.frame h.report stepped x.1 h.told x'.0 x'.1

handles-goes : (spelled : _) (cuts wanted : Bool) (form : Form) (x : Beside HoldingsSeen) (d : Directed (List ℕ)) (h : FrameTold)
    (x' : Beside HoldingsSeen) → Handles (by_pieces_as spelled) cuts wanted form x d h x' → Goes x d h x'
handles-goes spelled cuts wanted form x d h x' (f, means, as', stepped, meets, tells) =
    (true, stepped, meets-stay wanted form x.0 h.frame h.report h.answer stepped meets, tells)

begins-goes : (spelled : _) (cuts : Bool) (form : Form) (x : Beside HoldingsSeen) (d : Directed (List ℕ)) (h : FrameTold) (x' : Beside HoldingsSeen)
    → Begins (by_pieces_as spelled) cuts form x d h x' → Goes x d h x'
begins-goes spelled cuts form x d h x' (whole, f, means, as', stepped, meets, tells) =
    (whole, stepped, meets-stay false form x.0 h.frame h.report [] stepped meets, tells)

goes-stay : (x : Beside HoldingsSeen) (y : Directed (List ℕ)) (h : FrameTold) (x' : Beside HoldingsSeen) → Goes x y h x' → Stays x.0 x'.0
goes-stay x y h x' (whole, stepped, stays, tells) =
    stays-then x.0 stepped x'.0 stays (tells-stay whole h.frame h.report stepped x.1 h.told x'.0 x'.1 tells)

-- what is known stays known to the end
run-stays : (x : Beside HoldingsSeen) (ys : List (Directed (List ℕ))) (hs : List FrameTold) (x' : Beside HoldingsSeen) → Chain Goes x ys hs x'
    → Stays x.0 x'.0
run-stays = Chain-within Goes (λ (x : Beside HoldingsSeen) (x' : Beside HoldingsSeen). Stays x.0 x'.0) (λ x. stays-same x.0 x.0 refl)
    (λ x y z first next. stays-then x.0 y.0 z.0 first next) goes-stay

-- ---- frame after frame

module _ (d : Description) (E : SessionSeen) (ends : E.torrent ≡ d) (frames : List FrameTold) where
  one-keeps : (i : ℕ) (x : Beside HoldingsSeen) (y : Directed (List ℕ)) (h : FrameTold) (x' : Beside HoldingsSeen) → Goes x y h x'
      → slice_get frames i ≡ Some h → x.0.torrent ≡ d → AreOfCame d (CameBefore frames i E) x.1 → FrameKeeps d E frames i h x'.0 x'.1
  one-keeps i x y h x' (whole, stepped, stays, tells) there same good =
      frame-keeps d E ends frames i h there whole stepped (stays.torrent ∙ same) x.1 x'.0 x'.1 good tells

  -- the frame at hand, and those after it
  here : (i : ℕ) (h : FrameTold) (hs : List FrameTold) → ((j : ℕ) → slice_get (h ∷ hs) j ≡ slice_get frames (i + j)) → slice_get frames i ≡ Some h
  here i h hs at =
      let zero_is : i ≡ i + 0 = omega arith in
      ap (slice_get frames) zero_is ∙ sym (at 0)

  next : (i : ℕ) (h : FrameTold) (hs : List FrameTold) → ((j : ℕ) → slice_get (h ∷ hs) j ≡ slice_get frames (i + j)) → (j : ℕ)
      → slice_get hs j ≡ slice_get frames (suc i + j)
  next i h hs at j =
      let suc_is : i + suc j ≡ suc i + j = omega arith in
      at (suc j) ∙ ap (slice_get frames) suc_is

  pub run-came : (closed : HasClosedTrees E) (i : ℕ) (x : Beside HoldingsSeen) (ys : List (Directed (List ℕ))) (hs : List FrameTold) (x' : Beside HoldingsSeen)
      → Chain Goes x ys hs x' → ((j : ℕ) → slice_get hs j ≡ slice_get frames (i + j)) → x.0.torrent ≡ d → AreOfCame d (CameBefore frames i E) x.1
      → Stays x'.0 E → (j : ℕ) (h : FrameTold) → slice_get hs j ≡ Some h → (file : ℕ) (run : Run) → IsToldOfFrame (proved_of file run) h
      → HaveCome frames (i + j) E file run
  run-came closed i x [] [] x' run at same good stays j h is file r told = absurd (none-some h is)
  run-came closed i x [] (g ∷ hs) x' run at same good stays j h is file r told = absurd run
  run-came closed i x (y ∷ ys) [] x' run at same good stays j h is file r told = absurd run
  run-came closed i x (y ∷ ys) (g ∷ hs) x' (mid, step, rest) at same good stays zero h is file r told =
      let k = one-keeps i x y g mid step (here i g hs at) same good in
      let on = run-stays mid ys hs x' rest in
      let zero_is : i ≡ i + 0 = omega arith in
      subst (λ n. HaveCome frames n E file r) zero_is
      (k.proved closed (stays-then mid.0 x'.0 E on stays) file r (subst (IsToldOfFrame (proved_of file r)) (sym (same_Some g h is)) told))
  run-came closed i x (y ∷ ys) (g ∷ hs) x' (mid, step, rest) at same good stays (suc j) h is file r told =
      let k = one-keeps i x y g mid step (here i g hs at) same good in
      let suc_is : suc i + j ≡ i + suc j = omega arith in
      subst (λ n. HaveCome frames n E file r) suc_is
      (run-came closed (suc i) mid ys hs x' rest (next i g hs at) ((goes-stay x y g mid step).torrent ∙ same) k.good stays j h is file r told)

-- ---- reports

goes-came : (x : Beside HoldingsSeen) (ys : List (Directed (List ℕ))) (hs : List FrameTold) (x' : Beside HoldingsSeen) → Chain Goes x ys hs x'
    → x.1.pieces ≡ empty → HasClosedTrees x'.0 → AllProvedCame hs x'.0
goes-came x ys hs x' run none closed i h is file r told = subst (λ n. HaveCome hs n x'.0 file r) (sym (zero_and i))
    (run-came x.0.torrent x'.0 (run-stays x ys hs x' run).torrent hs closed 0 x ys hs x' run (λ j. ap (slice_get hs) (zero_and j)) refl
    (none-held x.0.torrent (CameBefore hs 0 x'.0) x.1 none) (stays-same x'.0 x'.0 refl) i h is file r told)
  where
    zero_and : (j : ℕ) → j ≡ 0 + j
    zero_and j = omega arith

module _ (spelled : _) (old new : ReplaySeen HoldingsSeen) (none : old.state.1.pieces ≡ empty) (closed : HasClosedTrees new.state.0) where
  handled-goes : (form : Form) (frames : List (Directed (List ℕ))) (hs : List FrameTold) (x' : Beside HoldingsSeen)
      → Chain (Handles (by_pieces_as spelled) old.cuts (is_some old.answers) form) old.state frames hs x' → Chain Goes old.state frames hs x'
  handled-goes form frames hs x' run = Chain-weaker (Handles (by_pieces_as spelled) old.cuts (is_some old.answers) form) Goes
      (handles-goes spelled old.cuts (is_some old.answers) form) old.state frames hs x' run

  replayed-came : (hs : List FrameTold) (e : Option _) → Replayed (by_pieces_as spelled) old new hs e → AllProvedCame hs new.state.0
  replayed-came hs e r = goes-came old.state r.frames hs new.state (handled-goes r.form r.frames hs new.state r.run) none closed

  last-came : (before : List FrameTold) (last : FrameTold) → HandlesButLast (by_pieces_as spelled) old new before last
      → AllProvedCame (before ++ last ∷ []) new.state.0
  last-came before last r = goes-came old.state (r.frames ++ r.directed ∷ []) (before ++ last ∷ []) new.state
      (Chain-more Goes old.state r.frames before r.state r.directed last new.state (handled-goes r.form r.frames before r.state r.run)
      (begins-goes spelled old.cuts r.form r.state r.directed last new.state r.step)) none closed

  ends-came : (hs : List FrameTold) (e : _) → Ends (by_pieces_as spelled) old new hs e → AllProvedCame hs new.state.0
  ends-came hs e (inl r) = replayed-came hs (Some e) r
  ends-came hs e (inr u) = subst (λ fs. AllProvedCame fs new.state.0) (sym u.all) (last-came u.before u.last u.handles)

  cut-came : (cut : IsCutReport (by_pieces_as spelled) old new) → AllProvedCame (frames_of spelled old new cut) new.state.0
  cut-came (inl line) = last-came line.before line.last line.handles
  cut-came (inr (inl answer)) = replayed-came (answer.before ++ answer.last ∷ []) None answer.handles
  cut-came (inr (inr (inl ends))) = ends-came ends.handled ends.ending ends.ends
  cut-came (inr (inr (inr flush))) = ends-came flush.handled flush.ending flush.ends

pub proved-frames_came : ProvedFramesCame
proved-frames_came spelled cuts wanted form old new frames handled run none closed = goes-came old frames handled new
    (Chain-weaker (Handles (by_pieces_as spelled) cuts wanted form) Goes (handles-goes spelled cuts wanted form) old frames handled new run) none closed

pub proved-lines_came : ProvedLinesCame
proved-lines_came spelled old new outcome report none closed = ends-came spelled old new none closed report.handled report.ending report.ends

pub cut-lines_came : CutLinesCame
cut-lines_came spelled old new cut none closed = cut-came spelled old new none closed cut
