-- A line `N proved FILE FIRST LAST` of a report speaks of blocks of FILE that came in the record,
-- in frame N or before it. Lines count frames from one, and here they are counted from zero.
use Rattle.std.proofs.Common.{inl, inr}
use Rattle.std.specs.Prelude.{◌≡◌, ℕ, ◌+◌, ◌<◌, ◌≤◌, ◌++◌, Bool, List, [], ◌∷◌, Option, Some, slice_get}
use Rattle.std.specs.FinMap.{empty}
use Rattle.chains.specs.Chain.{Chain}
use Rattle.hashtree.specs.Tree.{block}
use Rattle.partial_tree.specs.declared.refusal.BlockRefusal.TheVariants as block_refusal
use Rattle.session.specs.Blocks.{BlocksSeen}
use Rattle.session.specs.Layouts.{tree_of}
use Rattle.session.specs.Session.{SessionSeen, HasClosedTrees, IsFileBlock}
use Rattle.session.specs.declared.verdict.Verdict.TheVariants as verdict
use Rattle.holdings.specs.declared.holding.Hold.TheVariants as hold
use Rattle.holdings.specs.declared.run.Run.{Run}
use Rattle.holdings.specs.declared.run.Settled.TheVariants as settled
use Rattle.holdings.specs.Holdings.{HoldingsSeen}
use Rattle.wire.specs.declared.form.Form.{Form}
use Rattle.wire.specs.Records.{Directed}
use Rattle.replays.specs.declared.report.FrameReport.TheVariants as frame_report
use Rattle.replays.specs.declared.report.Outcome.{Outcome}
use Rattle.replays.specs.declared.said.Said.{Said}
use Rattle.replays.specs.declared.said.Said.TheVariants as said
use Rattle.lines.specs.Rows.{Spelling}
use Rattle.replays.specs.ByPieces.{by_pieces_as, bytes_in}
use Rattle.replays.specs.Replay.{Beside, Handled, Handles, IsCutReport, IsReport, ReplaySeen}

-- a frame as it was handled, and all that was told of it
abbrev pub FrameTold : Type 0
FrameTold = Handled (List Said)

-- this was told of a frame
abbrev pub IsToldOfFrame : Said → FrameTold → Type 0
IsToldOfFrame s h = (k : ℕ) × (slice_get h.told k ≡ Some s)

-- blocks of a file are proved
abbrev pub proved_of : ℕ → Run → Said
proved_of file run = said.Settling file (settled.Proved run)

-- entry m of a message is held; a piece that gave way is of this file
abbrev pub held_of : BlocksSeen → ℕ → Option Run → ℕ → Said
held_of v m dropped file = said.Unproved v m (hold.Held dropped) file

-- The frame is a message of blocks, and an entry of it, which could not be proved yet and was told
-- to be held, is of block b of tree n and has these bytes.
pub record HoldsBlock (S : SessionSeen) (h : FrameTold) (n b : ℕ) (bytes : List ℕ) : Type 0 where
  pub message : List ℕ
  pub message_is : bytes_in h.frame ≡ Some message
  pub blocks : BlocksSeen
  pub report_is : h.report ≡ frame_report.Verdict (verdict.Blocks blocks)
  pub entry : ℕ
  pub unproved : slice_get blocks.refusals entry ≡ Some (Some block_refusal.Unproved)
  pub dropped : Option Run
  pub dropped_from : ℕ
  pub held : IsToldOfFrame (held_of blocks entry dropped dropped_from) h
  pub tree_is : tree_of S blocks.file ≡ Some n
  pub block_is : b ≡ blocks.first + entry
  pub bytes_are : bytes ≡ block message entry

-- Block b of tree n came in one of these frames, frame i or one before it, and was held, for the
-- last time until then; and what came is that block of every file of the tree, or two inputs with
-- one digest are named.
pub record CameBy (frames : List FrameTold) (i : ℕ) (S : SessionSeen) (n b : ℕ) : Type 0 where
  pub number : ℕ
  pub by_then : number ≤ i
  pub frame : FrameTold
  pub there : slice_get frames number ≡ Some frame
  pub bytes : List ℕ
  pub came : HoldsBlock S frame n b bytes
  pub last : (j : ℕ) → number < j → j ≤ i → (later : FrameTold) → slice_get frames j ≡ Some later
      → (other : List ℕ) → ¬ HoldsBlock S later n b other
  pub is_block : (file : ℕ) → tree_of S file ≡ Some n → IsFileBlock S file b bytes

-- the blocks, at least one, are of this file's tree, and each of them came by then
pub record HaveCome (frames : List FrameTold) (i : ℕ) (S : SessionSeen) (file : ℕ) (run : Run)
    : Type 0 where
  pub tree_is : tree_of S file ≡ Some run.tree
  pub some : run.first ≤ run.last
  pub each : (b : ℕ) → run.first ≤ b → b ≤ run.last → CameBy frames i S run.tree b

-- all blocks that are told to be proved of one of these frames have come by then
abbrev pub AllProvedCame : List FrameTold → SessionSeen → Type 0
AllProvedCame frames S = (i : ℕ) (h : FrameTold) → slice_get frames i ≡ Some h
    → (file : ℕ) (run : Run) → IsToldOfFrame (proved_of file run) h → HaveCome frames i S file run

-- of the frames of a replay by pieces that began with nothing held, however its lines are spelled:
-- each block that is told to be proved of one has come by then, and what came last is the block, or
-- two inputs with one digest are named
abbrev pub ProvedFramesCame : Type 0
ProvedFramesCame = (spelled : Spelling) (cuts wanted : Bool) (form : Form)
    (old new : Beside HoldingsSeen) (frames : List (Directed (List ℕ))) (handled : List FrameTold)
    → Chain (Handles (by_pieces_as spelled) cuts wanted form) old frames handled new
    → old.1.pieces ≡ empty → HasClosedTrees new.0 → AllProvedCame handled new.0

-- IN EVERY REPORT of such a replay: each block that is told to be proved of a frame has come by
-- then, and what came last is the block, or two inputs with one digest are named
abbrev pub ProvedLinesCame : Type 0
ProvedLinesCame = (spelled : Spelling) (old new : ReplaySeen HoldingsSeen) (outcome : Outcome)
    (report : IsReport (by_pieces_as spelled) old new outcome) → old.state.1.pieces ≡ empty
    → HasClosedTrees new.state.0 → AllProvedCame report.handled new.state.0

-- the frames of a report that was cut off; of the last one not all may have been told
abbrev pub frames_of : (spelled : Spelling) (old new : ReplaySeen HoldingsSeen)
    → IsCutReport (by_pieces_as spelled) old new → List FrameTold
frames_of spelled old new (inl line) = line.before ++ line.last ∷ []
frames_of spelled old new (inr (inl answer)) = answer.before ++ answer.last ∷ []
frames_of spelled old new (inr (inr (inl ends))) = ends.handled
frames_of spelled old new (inr (inr (inr flush))) = flush.handled

-- in every report that was cut off it is so of each frame of which something was told
abbrev pub CutLinesCame : Type 0
CutLinesCame = (spelled : Spelling) (old new : ReplaySeen HoldingsSeen)
    (cut : IsCutReport (by_pieces_as spelled) old new) → old.state.1.pieces ≡ empty
    → HasClosedTrees new.state.0 → AllProvedCame (frames_of spelled old new cut) new.state.0
