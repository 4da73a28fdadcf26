-- What was told, by cases: for laws in other crates, which cannot name what is told.
use Rattle.std.proofs.Common.{◌≡◌, ◌≢◌, ◌⊎◌, ℕ, ◌+◌, Bool, true, false, List, Option, Some, slice_get, inl, inr, refl, ap, ◌∙◌}
use Rattle.std.proofs.lemmas.Bool.{false≢true}
use Rattle.hashtree.specs.Tree.{block}
use Rattle.partial_tree.specs.declared.refusal.BlockRefusal.TheVariants as block_refusal
use Rattle.session.specs.Blocks.{BlocksSeen}
use Rattle.session.specs.Session.{SessionSeen}
use Rattle.session.specs.declared.verdict.Verdict.TheVariants as verdict
use Rattle.wire.specs.declared.frame.Frame.{Frame}
use Rattle.wire.specs.declared.message.Ask.{Ask}
use Rattle.wire.specs.Records.{Directed}
use Rattle.holdings.specs.declared.holding.Hold.TheVariants as hold
use Rattle.holdings.specs.declared.piece_range.Pieces.{Pieces}
use Rattle.holdings.specs.declared.run.Run.{Run}
use Rattle.holdings.specs.declared.run.Settled.{Settled}
use Rattle.holdings.specs.Holding.{IsHeldNow}
use Rattle.holdings.specs.Holdings.{HoldingsSeen}
use Rattle.holdings.specs.Next.{SettlesNext}
use Rattle.replays.specs.declared.report.FrameReport.{FrameReport}
use Rattle.replays.specs.declared.report.FrameReport.TheVariants as frame_report
use Rattle.replays.specs.declared.said.Said.{Said}
use Rattle.replays.specs.declared.said.Said.TheVariants as said
use Rattle.replays.specs.Held.{IsSaidOf, IsSettled, Work}
use Rattle.replays.specs.ByPieces.{TellsByPieces, TellsHashes, TellsPlainly, TellsRun, bytes_in}
use Rattle.replays.specs.ProvedLines.{held_of, proved_of}

-- what is told, and what is reported of a frame
abbrev pub TheSaid : Type 0
TheSaid = Said

abbrev pub TheReport : Type 0
TheReport = FrameReport

-- the report of a message of blocks
abbrev pub blocks_report : BlocksSeen → TheReport
blocks_report v = frame_report.Verdict (verdict.Blocks v)

-- a report that is told as if nothing were held
abbrev pub report_said : TheReport → TheSaid
report_said d = said.Report d

-- ---- an entry of a message

pub record IsHeldEntry (S : SessionSeen) (v : BlocksSeen) (bytes : List ℕ) (n m : ℕ) (k : HoldingsSeen) (s : Said) (k' : HoldingsSeen) : Type 0 where
  pub unproved : slice_get v.refusals m ≡ Some (Some block_refusal.Unproved)
  pub dropped : Option Run
  pub file : ℕ
  pub said_is : s ≡ held_of v m dropped file
  pub held : IsHeldNow k S n (v.first + m) (block bytes m) dropped k'

-- it is not told to be held
abbrev pub IsNotHeld : Said → Type 0
IsNotHeld s = (v : BlocksSeen) (m : ℕ) (dropped : Option Run) (file : ℕ) → s ≢ held_of v m dropped file

abbrev is_held : Said → Bool
is_held (said.Unproved v m (hold.Held dropped) file) = true
is_held s = false

-- it is held, or what is held stays
pub entry-cases : (S : SessionSeen) (v : BlocksSeen) (bytes : List ℕ) (n m : ℕ) (k : HoldingsSeen) (s : Said) (k' : HoldingsSeen)
    → IsSaidOf S v bytes n m k s k' → IsHeldEntry S v bytes n m k s k' ⊎ ((k' ≡ k) × IsNotHeld s)
entry-cases S v bytes n m k (said.Entry v' m' r) k' is = inr (is.4, λ w j dropped file e. false≢true (ap is_held e))
entry-cases S v bytes n m k (said.Unproved v' m' (hold.Held dropped) file) k' is = inl (record {
  unproved = is.2;
  dropped = dropped;
  file = file;
  said_is = ap (λ w. held_of w m' dropped file) is.0 ∙ ap (λ i. held_of v i dropped file) is.1;
  held = is.3;
})
entry-cases S v bytes n m k (said.Unproved v' m' hold.Known file) k' is = inr (is.3.1, λ w j dropped file' e. false≢true (ap is_held e))
entry-cases S v bytes n m k (said.Unproved v' m' hold.NoMemory file) k' is = inr (is.3.1, λ w j dropped file' e. false≢true (ap is_held e))
entry-cases S v bytes n m k s k' is = absurd is

-- ---- a settling

-- something is settled, or all stays
pub settled-cases : (file : ℕ) (w : Work) (s : Said) (w' : Work) → IsSettled file w s w'
    → ((e : Settled) × SettlesNext w.session w.held w.pieces e w'.session w'.held w'.pieces)
    ⊎ ((w'.session ≡ w.session) × (w'.held ≡ w.held) × (w'.pieces.tree ≡ w.pieces.tree))
settled-cases file w (said.Settling file' e) w' is = inl (e, is.1)
settled-cases file w said.Lacking w' is = inr (is.1, is.2, ap (λ (p : Pieces). p.tree) is.0.next)
settled-cases file w s w' is = absurd is

-- ---- a frame

-- a message of blocks, a message of hashes, or one of which nothing is held or settled
pub tells-cases : (whole : Bool) (f : Directed Frame) (d : FrameReport) (S : SessionSeen) (k : HoldingsSeen) (told : List Said) (S' : SessionSeen)
    (k' : HoldingsSeen) → TellsByPieces whole f d S k told S' k'
    → ((v : BlocksSeen) × (d ≡ blocks_report v) × (bytes : List ℕ) × (bytes_in f ≡ Some bytes) × TellsRun whole S v bytes k told S' k')
    ⊎ (((ask : Ask) × TellsHashes whole S ask d k told S' k') ⊎ TellsPlainly d S k told S' k')
tells-cases whole f (frame_report.Verdict (verdict.Blocks v)) S k told S' k' (inl (bytes, is, run)) = inl (v, refl, bytes, is, run)
tells-cases whole f (frame_report.Verdict (verdict.Blocks v)) S k told S' k' (inr plain) = inr (inr plain.1)
tells-cases whole f (frame_report.Verdict (verdict.Stored c)) S k told S' k' (inl (ask, is, hashes)) = inr (inl (ask, hashes))
tells-cases whole f (frame_report.Verdict (verdict.Stored c)) S k told S' k' (inr plain) = inr (inr plain.1)
tells-cases whole f d S k told S' k' plain = inr (inr plain)

-- a report of a frame proves nothing, and holds nothing
abbrev is_settling : Said → Bool
is_settling (said.Settling file e) = true
is_settling s = false

pub report-apart : (d : FrameReport) (file : ℕ) (run : Run) → report_said d ≢ proved_of file run
report-apart d file run e = false≢true (ap is_settling e)

pub report-not_held : (d : FrameReport) → IsNotHeld (report_said d)
report-not_held d v m dropped file e = false≢true (ap is_held e)
