-- What the session's steps and settlings leave: its torrent, and what is known.
use Rattle.std.proofs.Common.{◌≡◌, ◌⊎◌, ℕ, zero, suc, ◌+◌, Bool, true, List, [], ◌∷◌, length, Some, Ok, inl, inr, ap, ◌∙◌}
use Rattle.wire.specs.declared.form.Form.{Form}
use Rattle.wire.specs.declared.form.Form.TheVariants.{One, Two}
use Rattle.wire.specs.declared.frame.Frame.{Frame}
use Rattle.wire.specs.declared.frame.Frame.TheVariants as frame
use Rattle.wire.specs.declared.message.Ask.{Ask}
use Rattle.wire.specs.declared.message.Message.{Message}
use Rattle.wire.specs.Records.{Directed}
use Rattle.node_maps.specs.Digest.{Hash}
use Rattle.session.specs.Blocks.{BlocksSeen}
use Rattle.session.specs.Pieces.{AreLeavesTaken, IsLeafMarked}
use Rattle.session.specs.SafeStep.{KeepsKnown}
use Rattle.session.specs.Session.{SessionSeen}
use Rattle.session.specs.declared.verdict.Verdict.{Verdict}
use Rattle.session.proofs.MarkedLeaves.{mark-keeps}
use Rattle.session.proofs.NotedSteps.{noted-torrent}
use Rattle.session.proofs.OneTree.{keeps-same, keeps-then}
use Rattle.session.proofs.TakenLeaves.{leaves-keep}
use Rattle.holdings.specs.declared.run.Run.{Run}
use Rattle.holdings.specs.declared.run.Settled.{Settled}
use Rattle.holdings.specs.declared.run.Settled.TheVariants.{Proved, False}
use Rattle.holdings.specs.Cells.{Cells}
use Rattle.holdings.specs.Settling.{AreBlocksMarked, IsMarkedRun, Settles}
use Rattle.holdings.specs.Holdings.{HoldingsSeen, all_pieces}
use Rattle.holdings.specs.Next.{SettlesNext}
use Rattle.replays.specs.ByPieces.{TellsByPieces, TellsHashes, TellsPlainly, TellsRun, bytes_in}
use Rattle.replays.specs.Held.{AreSettled, IsSettled, Work, work}
use Rattle.replays.specs.Replay.{Meets, StepsBy}
use Rattle.replays.proofs.ToldCases.{TheReport, TheSaid, blocks_report, settled-cases, tells-cases}

-- the torrent stays, and what is known stays known
pub record Stays (S S' : SessionSeen) : Type 0 where
  pub torrent : S'.torrent ≡ S.torrent
  pub keeps : KeepsKnown S S'

pub stays-same : (S S' : SessionSeen) → S' ≡ S → Stays S S'
stays-same S S' e = record {
  torrent = ap (λ (U : SessionSeen). U.torrent) e;
  keeps = keeps-same S S' e;
}

pub stays-then : (S M S' : SessionSeen) → Stays S M → Stays M S' → Stays S S'
stays-then S M S' a b = record { torrent = b.torrent ∙ a.torrent; keeps = keeps-then S M S' a.keeps b.keeps }

-- ---- steps

steps-stay : (form : Form) (S : SessionSeen) (x : Directed Message) (v : Verdict) (S' : SessionSeen) → StepsBy form S x v S' → Stays S S'
steps-stay One S x v S' step = record { torrent = step.torrent_stays; keeps = step.known_stays }
steps-stay Two S x v S' step = record { torrent = noted-torrent S x v S' step.allowed; keeps = step.known_stays }

pub meets-stay : (wanted : Bool) (form : Form) (S : SessionSeen) (f : Directed Frame) (d : TheReport) (answer : List ℕ) (S' : SessionSeen)
    → Meets wanted form S f d answer S' → Stays S S'
meets-stay wanted form S (i, frame.Message m) d answer S' meets = steps-stay form S (i, m) meets.0 S' meets.1
meets-stay wanted form S (i, frame.BadSize id len) d answer S' meets = stays-same S S' meets.2

-- ---- settlings

mark-stays : (S : SessionSeen) (n b : ℕ) (digest : Hash) (S' : SessionSeen) → IsLeafMarked S n b digest S' → Stays S S'
mark-stays S n b digest S' marked = record {
  torrent = ap (λ (U : SessionSeen). U.torrent) marked.3;
  keeps = mark-keeps S n b digest S' true marked tt;
}

leaves-stay : (S : SessionSeen) (n first : ℕ) (leaves : List Hash) (count : ℕ) (S' : SessionSeen) → AreLeavesTaken S n first leaves count S' → Stays S S'
leaves-stay S n first leaves count S' taken = record {
  torrent = ap (λ (U : SessionSeen). U.torrent) taken.state_after;
  keeps = leaves-keep S n first leaves S' (Ok count) taken tt;
}

marks-stay : (S : SessionSeen) (n first : ℕ) (cells : Cells) (j count : ℕ) (S' : SessionSeen) (cells' : Cells)
    → AreBlocksMarked S n first cells j count S' cells'
    → Stays S S'
marks-stay S n first cells j zero S' cells' none = stays-same S S' none.0
marks-stay S n first cells j (suc count) S' cells' (M, between, rest, last) =
    stays-then S M S' (marks-stay S n first cells j count M between rest) (mark-stays M n (first + (j + count)) last.digest S' last.marked)

run-stays : (S : SessionSeen) (n first size : ℕ) (cells : Cells) (from : ℕ) (run : Run) (S' : SessionSeen) (cells' : Cells)
    → IsMarkedRun S n first size cells from run S' cells' → Stays S S'
run-stays S n first size cells from run S' cells' m = marks-stay S n first cells from (suc m.more) S' cells' m.marks

settling-stays : (S : SessionSeen) (n first size : ℕ) (cells : Cells) (e : Settled) (S' : SessionSeen) (cells' : Cells)
    → Settles S n first size cells e S' cells' → Stays S S'
settling-stays S n first size cells (Proved run) S' cells' (inl k) = run-stays S n first size cells k.from run S' cells' k.judged
settling-stays S n first size cells (Proved run) S' cells' (inr k) =
    stays-then S k.joined S' (leaves-stay S n first k.join.leaves k.join.count k.joined k.join.taken)
    (run-stays k.joined n first size cells k.from run S' cells' k.marked)
settling-stays S n first size cells (False run) S' cells' (inl k) = stays-same S S' k.judged.session
settling-stays S n first size cells (False run) S' cells' (inr k) = stays-same S S' k.session

pub one-stays : (file : ℕ) (w : Work) (s : TheSaid) (w' : Work) → IsSettled file w s w' → Stays w.session w'.session
one-stays file w s w' one = by (settled-cases file w s w' one)
  where
    by : ((e : Settled) × SettlesNext w.session w.held w.pieces e w'.session w'.held w'.pieces)
        ⊎ ((w'.session ≡ w.session) × (w'.held ≡ w.held) × (w'.pieces.tree ≡ w.pieces.tree)) → Stays w.session w'.session
    by (inl (e, next)) =
        let piece = next.settles in
        settling-stays w.session w.pieces.tree next.first (length piece.seen.cells) piece.seen.cells e w'.session piece.cells piece.settles
    by (inr stays) = stays-same w.session w'.session stays.0

pub settled-stays : (file : ℕ) (w : Work) (ss : List TheSaid) (w' : Work) → AreSettled file w ss w' → Stays w.session w'.session
unfolding AreSettled
settled-stays file w [] w' is = stays-same w.session w'.session (ap (λ (x : Work). x.session) is)
settled-stays file w (s ∷ ss) w' (mid, one, rest) =
    stays-then w.session mid.session w'.session (one-stays file w s mid one) (settled-stays file mid ss w' rest)

-- ---- frames

pub tells-stay : (whole : Bool) (f : Directed Frame) (d : TheReport) (S : SessionSeen) (k : HoldingsSeen) (told : List TheSaid) (S' : SessionSeen)
    (k' : HoldingsSeen) → TellsByPieces whole f d S k told S' k' → Stays S S'
tells-stay whole f d S k told S' k' tells = by (tells-cases whole f d S k told S' k' tells)
  where
    by : ((v : BlocksSeen) × (d ≡ blocks_report v) × (bytes : List ℕ) × (bytes_in f ≡ Some bytes) × TellsRun whole S v bytes k told S' k')
        ⊎ (((ask : Ask) × TellsHashes whole S ask d k told S' k') ⊎ TellsPlainly d S k told S' k') → Stays S S'
    by (inl (v, report_is, bytes, message_is, r)) = settled-stays v.file (work S r.mid r.pieces) r.settled (work S' k' r.settles.left) r.settles.settled
    by (inr (inl (ask, r))) = settled-stays r.file (work S k (all_pieces r.tree)) r.settled (work S' k' r.settles.left) r.settles.settled
    by (inr (inr plain)) = stays-same S S' plain.1
