-- What is told of a frame if the blocks that cannot be proved yet are held: they are held in place
-- of their refusal, and what can be settled is settled after the frame's own lines.
use Rattle.std.specs.Prelude.{◌≡◌, ◌⊎◌, ℕ, ◌==◌, ◌++◌, Bool, true, false, not, if◌then◌else◌, List, [], ◌∷◌, length}
use Rattle.std.specs.Prelude.{Option, Some, None, Result, Ok, Err, OnOk, is_ok}
use Rattle.benc.specs.Device.{SinkSeen, Sent, Broke}
use Rattle.opening.specs.Trees.{IsTreeWithRoot}
use Rattle.session.specs.Blocks.{BlocksSeen}
use Rattle.session.specs.Session.{SessionSeen}
use Rattle.session.specs.declared.verdict.Verdict.TheVariants as verdict
use Rattle.wire.specs.declared.frame.Frame.{Frame}
use Rattle.wire.specs.declared.frame.Frame.TheVariants as frame
use Rattle.wire.specs.declared.message.Ask.{Ask}
use Rattle.wire.specs.declared.message.Message.TheVariants as message
use Rattle.wire.specs.Records.{Directed}
use Rattle.holdings.specs.declared.piece_range.Pieces.{Pieces}
use Rattle.holdings.specs.Holdings.{HoldingsSeen, all_pieces, held_count}
use Rattle.replays.specs.declared.report.FrameReport.{FrameReport}
use Rattle.replays.specs.declared.report.FrameReport.TheVariants as frame_report
use Rattle.replays.specs.declared.report.Outcome.{Outcome}
use Rattle.replays.specs.declared.said.Said.{Said}
use Rattle.replays.specs.declared.said.Said.TheVariants as said
use Rattle.replays.specs.Held.{ArePiecesOf, AreSaidOf, IsFirstWith, IsRunOf, SettlesAll}
use Rattle.lines.specs.Rows.{Spelling}
use Rattle.lines.specs.Table.{still_held_row}
use Rattle.replays.specs.ReplayRows.{all_lines_as, ending_row}
use Rattle.replays.specs.SaidLines.{any_lacks, any_refuses}
use Rattle.replays.specs.Telling.{Teller}
use Rattle.replays.specs.TellingOf.{IsOutcomeAfter}

-- the bytes of a message of blocks
abbrev pub bytes_in : Directed Frame → Option (List ℕ)
bytes_in (i, frame.Message (message.Piece index begin bytes)) = Some bytes.now
bytes_in f = None

-- what a message of hashes was asked for
abbrev pub asked_in : Directed Frame → Option Ask
asked_in (i, frame.Message (message.Hashes ask hashes)) = Some ask
asked_in f = None

-- the report is told as if nothing were held
abbrev pub TellsPlainly : FrameReport → SessionSeen → HoldingsSeen → List Said → SessionSeen
    → HoldingsSeen → Type 0
TellsPlainly d S k told S' k' = (told ≡ said.Report d ∷ []) × (S' ≡ S) × (k' ≡ k)

-- Each entry of a message with these bytes is told, and held if it is unproved; then what can be
-- settled is settled of the pieces that have one of its blocks.
pub record TellsRun (whole : Bool) (S : SessionSeen) (v : BlocksSeen) (bytes : List ℕ)
    (k : HoldingsSeen) (told : List Said) (S' : SessionSeen) (k' : HoldingsSeen) : Type 0 where
  pub tree : ℕ
  pub run : IsRunOf S v bytes tree
  pub entries : List Said
  pub mid : HoldingsSeen
  pub held : AreSaidOf S v bytes tree 0 k entries mid
  pub pieces : Pieces
  pub are_pieces : ArePiecesOf S v tree pieces
  pub settled : List Said
  pub settles : SettlesAll whole v.file S mid pieces settled S' k'
  pub told_is : told ≡ entries ++ settled
  -- all entries are told, or the lines broke off before
  pub all : (length entries ≡ length v.refusals) ⊎ ((whole ≡ false) × (settled ≡ []))

-- a message of blocks is told so, if its entries are blocks of a tree
abbrev pub TellsBlocks : Bool → Directed Frame → SessionSeen → BlocksSeen → HoldingsSeen
    → List Said → SessionSeen → HoldingsSeen → Type 0
TellsBlocks whole f S v k told S' k' =
    ((bytes : List ℕ) × (bytes_in f ≡ Some bytes) × TellsRun whole S v bytes k told S' k')
    ⊎ (((bytes : List ℕ) (n : ℕ) → bytes_in f ≡ Some bytes → ¬ IsRunOf S v bytes n)
    × TellsPlainly (frame_report.Verdict (verdict.Blocks v)) S k told S' k')

-- The report is told; then what can be settled is settled of all pieces of the tree with the root
-- that was asked for, and told of the first file that has it.
pub record TellsHashes (whole : Bool) (S : SessionSeen) (ask : Ask) (d : FrameReport)
    (k : HoldingsSeen) (told : List Said) (S' : SessionSeen) (k' : HoldingsSeen) : Type 0 where
  pub tree : ℕ
  pub has_root : IsTreeWithRoot S.torrent.trees ask.root tree
  pub file : ℕ
  pub is_first : IsFirstWith S tree file
  pub settled : List Said
  pub settles : SettlesAll whole file S k (all_pieces tree) settled S' k'
  pub told_is : told ≡ said.Report d ∷ settled

-- a message of hashes is told so, if a tree has the root that was asked for
abbrev pub TellsStored : Bool → Directed Frame → FrameReport → SessionSeen → HoldingsSeen
    → List Said → SessionSeen → HoldingsSeen → Type 0
TellsStored whole f d S k told S' k' =
    ((ask : Ask) × (asked_in f ≡ Some ask) × TellsHashes whole S ask d k told S' k')
    ⊎ (((ask : Ask) (n : ℕ) → asked_in f ≡ Some ask
    → ¬ IsTreeWithRoot S.torrent.trees ask.root n) × TellsPlainly d S k told S' k')

-- what is told of a frame with this report
abbrev pub TellsByPieces : Bool → Directed Frame → FrameReport → SessionSeen → HoldingsSeen
    → List Said → SessionSeen → HoldingsSeen → Type 0
TellsByPieces whole f (frame_report.Verdict (verdict.Blocks v)) S k told S' k' =
    TellsBlocks whole f S v k told S' k'
TellsByPieces whole f (frame_report.Verdict (verdict.Stored count)) S k told S' k' =
    TellsStored whole f (frame_report.Verdict (verdict.Stored count)) S k told S' k'
TellsByPieces whole f d S k told S' k' = TellsPlainly d S k told S' k'

-- how many blocks are held at the end, if any, spelled so
abbrev pub held_line_as : Spelling → HoldingsSeen → List ℕ
held_line_as spelled k =
    if held_count k == 0 then [] else spelled (still_held_row (held_count k))

-- blocks that cannot be proved yet are held, and what can be settled is told, spelled so
abbrev pub by_pieces_as : Spelling → Teller HoldingsSeen (List Said)
by_pieces_as spelled = record {
  tells = TellsByPieces;
  lines = all_lines_as spelled;
  refuses = any_refuses;
  lacks_memory = any_lacks;
  rest = held_line_as spelled;
  has_rest = λ k. not (held_count k == 0);
  ending = λ e. spelled (ending_row e);
  stays = λ f S S' k k' told is. is.1;
}

-- ---- what calls do

-- these were told in frame n, or their lines broke off
abbrev pub SaysAll : {A E : Type 0} → Spelling → ℕ → List Said → SinkSeen → SinkSeen → Outcome
    → Outcome → Result A E → Type 0
SaysAll spelled n told out out' o o' (Ok u) = Sent out out' (all_lines_as spelled n told)
    × IsOutcomeAfter (by_pieces_as spelled) o told o'
SaysAll spelled n told out out' o o' (Err e) = Broke out out' (all_lines_as spelled n told)

-- the entries of a message were told, all of them or until their lines broke off
pub record SaysEntries {A E : Type 0} (S : SessionSeen) (v : BlocksSeen) (bytes : List ℕ) (n : ℕ)
    (k k' : HoldingsSeen) (spelled : Spelling) (number : ℕ) (out out' : SinkSeen) (o o' : Outcome)
    (r : Result A E)
    : Type 0 where
  pub entries : List Said
  pub held : AreSaidOf S v bytes n 0 k entries k'
  pub says : SaysAll spelled number entries out out' o o' r
  pub all : OnOk r (length entries ≡ length v.refusals)

-- what could be settled of some pieces was told, all of it or until the lines broke off
pub record SaysSettled {A E : Type 0} (file : ℕ) (S : SessionSeen) (k : HoldingsSeen) (p : Pieces)
    (S' : SessionSeen) (k' : HoldingsSeen) (spelled : Spelling) (number : ℕ) (out out' : SinkSeen)
    (o o' : Outcome) (r : Result A E) : Type 0 where
  pub told : List Said
  pub settles : SettlesAll (is_ok r) file S k p told S' k'
  pub says : SaysAll spelled number told out out' o o' r

-- a message was told whose entries are blocks of a tree, or its lines broke off
pub record SaysRun {A E : Type 0} (S : SessionSeen) (v : BlocksSeen) (bytes : List ℕ)
    (k : HoldingsSeen) (S' : SessionSeen) (k' : HoldingsSeen) (spelled : Spelling) (number : ℕ)
    (out out' : SinkSeen) (o o' : Outcome) (r : Result A E) : Type 0 where
  pub told : List Said
  pub tells : TellsRun (is_ok r) S v bytes k told S' k'
  pub says : SaysAll spelled number told out out' o o' r

-- the report of a message of hashes was told, and then what could be settled of some pieces; or the
-- lines broke off
pub record SaysHashes {A E : Type 0} (d : FrameReport) (file : ℕ) (S : SessionSeen)
    (k : HoldingsSeen) (p : Pieces) (S' : SessionSeen) (k' : HoldingsSeen) (spelled : Spelling)
    (number : ℕ) (out out' : SinkSeen) (o o' : Outcome) (r : Result A E) : Type 0 where
  pub settled : List Said
  pub settles : SettlesAll (is_ok r) file S k p settled S' k'
  pub says : SaysAll spelled number (said.Report d ∷ settled) out out' o o' r
