-- One frame: what is held after it came, and what is told of it to be proved has come.
use Rattle.std.proofs.Common.{◌≡◌, ◌⊎◌, ℕ, zero, suc, Bool, List, [], ◌∷◌, Option, Some, inl, inr, refl, sym, ap, ◌∙◌, subst}
use Rattle.std.specs.Prelude.{slice_get}
use Rattle.std.proofs.lemmas.Option.{none-some, same_Some}
use Rattle.opening.specs.Description.{Description}
use Rattle.session.specs.Blocks.{BlocksSeen}
use Rattle.session.specs.Layouts.{tree_of}
use Rattle.session.specs.Session.{SessionSeen, HasClosedTrees}
use Rattle.wire.specs.declared.message.Ask.{Ask}
use Rattle.holdings.specs.declared.run.Run.{Run}
use Rattle.holdings.specs.Holdings.{HoldingsSeen, all_pieces}
use Rattle.replays.specs.ByPieces.{TellsByPieces, TellsHashes, TellsPlainly, TellsRun, bytes_in}
use Rattle.replays.specs.Held.{Work, work}
use Rattle.replays.specs.ProvedLines.{FrameTold, HaveCome, HoldsBlock, IsToldOfFrame, held_of, proved_of}
use Rattle.replays.proofs.ToldCases.{TheSaid, blocks_report, report-apart, report-not_held, report_said, tells-cases}
use Rattle.replay_laws.proofs.Entries.{CameBefore, entries-held, entries-prove-nothing, in-either, said_of, same-tree, still-last}
use Rattle.replay_laws.proofs.Holding.{AreOfCame, came-weaker}
use Rattle.replay_laws.proofs.Settlings.{settled-came, settled-good, settled-hold-nothing}
use Rattle.replay_laws.proofs.Staying.{Stays}

-- what is held after a frame is of blocks that came, and what is told of it to be proved has come, as the session's last state shows
pub record FrameKeeps (d : Description) (E : SessionSeen) (frames : List FrameTold) (i : ℕ) (h : FrameTold) (S' : SessionSeen) (k' : HoldingsSeen)
    : Type 0 where
  pub good : AreOfCame d (CameBefore frames (suc i) E) k'
  pub proved : HasClosedTrees E → Stays S' E → (file : ℕ) (run : Run) → IsToldOfFrame (proved_of file run) h → HaveCome frames i E file run

module _ (d : Description) (E : SessionSeen) (ends : E.torrent ≡ d) (frames : List FrameTold) (i : ℕ) (h : FrameTold)
    (there : slice_get frames i ≡ Some h) (whole : Bool) (S : SessionSeen) (same : S.torrent ≡ d) (k : HoldingsSeen) (S' : SessionSeen)
    (k' : HoldingsSeen) (good : AreOfCame d (CameBefore frames i E) k) where
  abbrev Came : ℕ → ℕ → List ℕ → Type 0
  Came = CameBefore frames (suc i) E

  abbrev Keeps : Type 0
  Keeps = FrameKeeps d E frames i h S' k'

  -- ---- a message of blocks

  module _ (v : BlocksSeen) (report_is : h.report ≡ blocks_report v) (bytes : List ℕ) (message_is : bytes_in h.frame ≡ Some bytes)
      (r : TellsRun whole S v bytes k h.told S' k') where
    abbrev before : Work
    before = work S r.mid r.pieces

    abbrev after : Work
    after = work S' k' r.settles.left

    entries-good : AreOfCame d Came r.mid
    entries-good = entries-held d E ends frames i h there S same v report_is bytes message_is r.tree r.run.of_file r.entries r.settled r.told_is
        k r.mid r.held (settled-hold-nothing v.file before r.settled after r.settles.settled) good

    run-proved : HasClosedTrees E → Stays S' E → (file : ℕ) (run : Run) → IsToldOfFrame (proved_of file run) h → HaveCome frames i E file run
    run-proved closed stays file run told =
        by (in-either r.entries r.settled told.0 (proved_of file run) (sym (ap (λ ss. slice_get ss told.0) r.told_is) ∙ told.1))
      where
        by : (slice_get r.entries told.0 ≡ Some (proved_of file run)) ⊎ ((j : ℕ) × (slice_get r.settled j ≡ Some (proved_of file run)))
            → HaveCome frames i E file run
        by (inl at) = absurd (entries-prove-nothing S v bytes r.tree 0 k r.entries r.mid r.held told.0 file run at)
        by (inr (j, at)) = settled-came d E frames i v.file closed r.tree (λ b bs came. sym (same-tree S E d same ends v.file) ∙ r.run.of_file)
            before r.settled after r.settles.settled same r.are_pieces.tree_is entries-good stays j file run at

    run-keeps : Keeps
    run-keeps = record {
      good = settled-good d E frames i v.file before r.settled after r.settles.settled entries-good;
      proved = run-proved;
    }

  -- ---- a report, and what is settled after it

  module _ (settled : List TheSaid) (told_is : h.told ≡ report_said h.report ∷ settled)
      (none : (j : ℕ) (v : BlocksSeen) (m : ℕ) (dropped : Option Run) (from : ℕ) → slice_get settled j ≡ Some (held_of v m dropped from) → ⊥) where
    -- no block is held
    no-block : (n b : ℕ) (bytes : List ℕ) → HoldsBlock E h n b bytes → ⊥
    no-block n b bytes x = by x.held.0 (sym (ap (λ ss. slice_get ss x.held.0) told_is) ∙ x.held.1)
      where
        by : (j : ℕ) → slice_get (report_said h.report ∷ settled) j ≡ Some (said_of x) → ⊥
        by zero at = report-not_held h.report x.blocks x.entry x.dropped x.dropped_from (same_Some (report_said h.report) (said_of x) at)
        by (suc j) at = none j x.blocks x.entry x.dropped x.dropped_from at

    still-good : AreOfCame d Came k
    still-good = came-weaker d (CameBefore frames i E) Came k (λ n b bs came. still-last E frames i h there n b bs (no-block n b) came) good

    -- what is told to be proved is settled after it
    told-later : (file : ℕ) (run : Run) → IsToldOfFrame (proved_of file run) h → (j : ℕ) × (slice_get settled j ≡ Some (proved_of file run))
    told-later file run told = by told.0 (sym (ap (λ ss. slice_get ss told.0) told_is) ∙ told.1)
      where
        by : (m : ℕ) → slice_get (report_said h.report ∷ settled) m ≡ Some (proved_of file run) → (j : ℕ) × (slice_get settled j ≡ Some (proved_of file run))
        by zero at = absurd (report-apart h.report file run (same_Some (report_said h.report) (proved_of file run) at))
        by (suc j) at = (j, at)

  module _ (ask : Ask) (r : TellsHashes whole S ask h.report k h.told S' k') where
    abbrev before_hashes : Work
    before_hashes = work S k (all_pieces r.tree)

    abbrev after_hashes : Work
    after_hashes = work S' k' r.settles.left

    hashes-good : AreOfCame d Came k
    hashes-good = still-good r.settled r.told_is (settled-hold-nothing r.file before_hashes r.settled after_hashes r.settles.settled)

    names : (b : ℕ) (bs : List ℕ) → Came r.tree b bs → tree_of E r.file ≡ Some r.tree
    names b bs c = sym (same-tree S E d same ends r.file)
        ∙ r.is_first.has c.came.blocks.file (same-tree S E d same ends c.came.blocks.file ∙ c.came.tree_is)

    hashes-keep : Keeps
    hashes-keep = record {
      good = settled-good d E frames i r.file before_hashes r.settled after_hashes r.settles.settled hashes-good;
      proved = λ closed stays file run told.
          let (j, at) = told-later r.settled r.told_is (settled-hold-nothing r.file before_hashes r.settled after_hashes r.settles.settled) file run told in
          settled-came d E frames i r.file closed r.tree names before_hashes r.settled after_hashes r.settles.settled same refl hashes-good stays j file run at;
    }

  plain-keeps : TellsPlainly h.report S k h.told S' k' → Keeps
  plain-keeps plain = record {
    good = subst (AreOfCame d Came) (sym plain.2) (still-good [] plain.0 nothing);
    proved = λ closed stays file run told. let (j, at) = told-later [] plain.0 nothing file run told in absurd (none-some (proved_of file run) at);
  }
    where
      nothing : (j : ℕ) (v : BlocksSeen) (m : ℕ) (dropped : Option Run) (from : ℕ)
          → ◌≡◌ {A = Option TheSaid} (slice_get [] j) (Some (held_of v m dropped from)) → ⊥
      nothing j v m dropped from at = none-some (held_of v m dropped from) at

  pub frame-keeps : TellsByPieces whole h.frame h.report S k h.told S' k' → Keeps
  frame-keeps tells = by (tells-cases whole h.frame h.report S k h.told S' k' tells)
    where
      by : ((v : BlocksSeen) × (h.report ≡ blocks_report v) × (bytes : List ℕ) × (bytes_in h.frame ≡ Some bytes) × TellsRun whole S v bytes k h.told S' k')
          ⊎ (((ask : Ask) × TellsHashes whole S ask h.report k h.told S' k') ⊎ TellsPlainly h.report S k h.told S' k') → Keeps
      by (inl (v, report_is, bytes, message_is, run)) = run-keeps v report_is bytes message_is run
      by (inr (inl (ask, hashes))) = hashes-keep ask hashes
      by (inr (inr plain)) = plain-keeps plain
