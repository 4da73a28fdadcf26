-- What is told of a frame after the session's step for it.
use Rattle.std.specs.Prelude.{◌≡◌, ◌||◌, ℕ, Bool, true, false, List, []}
use Rattle.std.specs.List.{list_any}
use Rattle.wire.specs.declared.frame.Frame.{Frame}
use Rattle.wire.specs.Records.{Directed}
use Rattle.session.specs.declared.verdict.Verdict.TheVariants as verdict
use Rattle.session.specs.Session.{SessionSeen}
use Rattle.replays.specs.declared.report.FrameReport.{FrameReport}
use Rattle.replays.specs.declared.report.FrameReport.TheVariants as frame_report
use Rattle.replays.specs.declared.report.Ending.{Ending}
use Rattle.replays.specs.declared.report.Outcome.{Outcome}
use Rattle.replays.specs.Outcome.{is_fault, is_refusal, is_no_memory}
use Rattle.lines.specs.Rows.{Spelling}
use Rattle.replays.specs.ReplayRows.{ending_row, lines_as}

-- how frames are told, by one who keeps something beside the session
pub record Teller (Kept Told : Type 0) : Type 1 where
  -- the session had made its step for a frame, with this report; then this was told of the frame,
  -- which took the session and what is kept from there to here. It is whole, or it broke off
  pub tells : Bool → Directed Frame → FrameReport → SessionSeen → Kept → Told → SessionSeen → Kept
      → Type 0
  -- the lines of frame n of which this is told
  pub lines : ℕ → Told → List ℕ
  -- one of them tells a refusal, or one for lack of memory
  pub refuses : Told → Bool
  pub lacks_memory : Told → Bool
  -- the lines of what is kept at the end, and whether there is any
  pub rest : Kept → List ℕ
  pub has_rest : Kept → Bool
  -- the last line
  pub ending : Ending → List ℕ
  -- what is told of a request that is answered leaves the session as it was
  pub stays : (f : Directed Frame) (S S' : SessionSeen) (k k' : Kept) (told : Told)
      → tells true f (frame_report.Verdict verdict.Answered) S k told S' k' → S' ≡ S

-- what all that was told amounts to, and what is kept at the end
abbrev pub outcome_of : {Kept Told : Type 0} → Teller Kept Told → List Told → Kept → Ending
    → Outcome
outcome_of T told kept last = record {
  refused = list_any T.refuses told || T.has_rest kept;
  no_memory = list_any T.lacks_memory told;
  fault = is_fault last;
}

-- the session's report is told in its lines, spelled so, and nothing is kept
abbrev pub plain_as : Spelling → Teller (Unit {0}) FrameReport
plain_as spelled = record {
  tells = λ whole f d S k told S' k'. (told ≡ d) × (S' ≡ S);
  lines = lines_as spelled;
  refuses = is_refusal;
  lacks_memory = is_no_memory;
  rest = λ k. [];
  has_rest = λ k. false;
  ending = λ e. spelled (ending_row e);
  stays = λ f S S' k k' told is. is.1;
}
