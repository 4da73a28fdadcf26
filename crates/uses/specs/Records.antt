-- What a report says of a record.
use Rattle.std.specs.Prelude.{ℕ, ◌+◌, false, List, [], ◌∷◌, ◌++◌, Some}
use Rattle.benc.specs.Device.{SinkSeen, SourceSeen, SentAndFlushed}
use Rattle.chains.specs.Chain.{Chain}
use Rattle.lines.specs.Texts.{text_of}
use Rattle.replays.specs.Replay.{GaveRecord, IsEnding, Meets}
use Rattle.replays.specs.ReplayRows.{ending_row, lines_as}
use Rattle.session.specs.Session.{SessionSeen}
use Rattle.wire.specs.Records.{Directed, MeansDirected}
use Rattle.wire.specs.declared.form.Form.{Form}
use Rattle.wire.specs.declared.frame.Frame.{Frame}

-- the lines of frames, by what is reported of each, the first of which has number n
abbrev pub frame_lines_from : {R : Type 0} → (ℕ → R → List ℕ) → ℕ → List R → List ℕ
frame_lines_from lines n [] = []
frame_lines_from lines n (r ∷ rs) = lines n r ++ frame_lines_from lines (n + 1) rs

-- one after the other these frames came to the session, and a report was made of each, by the
-- session's step for it; and then exactly the lines of these reports went out, with one that says
-- how the record ended
abbrev pub AreReported : Form → SourceSeen → List (Directed (List ℕ)) → List ℕ → SessionSeen
    → SessionSeen → SinkSeen → SinkSeen → Type 0
AreReported form source frames rest S S' out out' =
    (reports : _) × (ending : _)
    × Chain (λ T body report T'. (f : Directed Frame) × MeansDirected body f
    × Meets false form T f report [] T') S frames reports S'
    × IsEnding form source.left rest (Some ending)
    × SentAndFlushed out out'
    (frame_lines_from (lines_as text_of) 1 reports ++ text_of (ending_row ending))

-- the record that came is these frames and a rest, and they are reported so
pub record IsReportOf (source source' : SourceSeen) (S S' : SessionSeen) (out out' : SinkSeen)
    : Type 0 where
  pub form : Form
  pub frames : List (Directed (List ℕ))
  pub rest : List ℕ
  pub came : GaveRecord source source' form frames rest
  pub reported : AreReported form source' frames rest S S' out out'
