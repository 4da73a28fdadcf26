-- How what is held of several pieces of a tree is settled, one settling at a time.
use Rattle.std.specs.Prelude.{◌≡◌, ◌⊎◌, ℕ, ◌+◌, ◌<◌, ◌≤◌, length, Some, None, IsSome}
use Rattle.std.specs.FinMap.{get, insert}
use Rattle.session.specs.Pieces.{HasPiece}
use Rattle.session.specs.Session.{SessionSeen}
use Rattle.holdings.specs.declared.piece_range.Pieces.{Pieces}
use Rattle.holdings.specs.declared.run.Settled.{Settled}
use Rattle.holdings.specs.Cells.{Cells, digest_in, IsComplete, IsUnsettled}
use Rattle.holdings.specs.Settling.{Settles}
use Rattle.holdings.specs.Holdings.{HoldingsSeen, PieceSeen, without_piece}

-- with other cells of a piece, which is as old as before
abbrev pub with_cells : HoldingsSeen → ℕ × ℕ → PieceSeen → Cells → HoldingsSeen
with_cells h q x cells = record h {
  pieces = insert h.pieces q (record { cells = cells; newest = x.newest });
}

-- nothing is held of a piece
abbrev pub IsBare : Cells → Type 0
IsBare cells = (j : ℕ) → j < length cells → digest_in cells j ≡ None

-- something is held of a piece
abbrev pub HoldsSome : Cells → Type 0
HoldsSome cells = (j : ℕ) × (j < length cells) × IsSome (digest_in cells j)

-- the piece has other cells then, or nothing is held of it any more
abbrev pub LeavesCells : HoldingsSeen → ℕ × ℕ → PieceSeen → Cells → HoldingsSeen → Type 0
LeavesCells h q x cells h' = (HoldsSome cells × (h' ≡ with_cells h q x cells))
    ⊎ (IsBare cells × (h' ≡ without_piece h q))

-- if the piece of tree n from block `first` on is held, nothing of it can be settled
abbrev pub IsPieceUnsettled : SessionSeen → HoldingsSeen → ℕ → ℕ → Type 0
IsPieceUnsettled S h n first = (x : PieceSeen) → get h.pieces (n, first) ≡ Some x
    → HasPiece S n first (length x.cells) → IsUnsettled S n first (length x.cells) x.cells

-- something is held of the piece of tree n from block `first` on, and settled
pub record SettlesPiece (S : SessionSeen) (h : HoldingsSeen) (n first : ℕ) (e : Settled)
    (S' : SessionSeen) (h' : HoldingsSeen) : Type 0 where
  pub seen : PieceSeen
  pub there : get h.pieces (n, first) ≡ Some seen
  pub piece : HasPiece S n first (length seen.cells)
  pub cells : Cells
  pub settles : Settles S n first (length seen.cells) seen.cells e S' cells
  pub leaves : LeavesCells h (n, first) seen cells h'

-- the piece of tree n from block `first` on is held and complete
pub record IsPieceComplete (S : SessionSeen) (h : HoldingsSeen) (n first : ℕ) : Type 0 where
  pub seen : PieceSeen
  pub there : get h.pieces (n, first) ≡ Some seen
  pub piece : HasPiece S n first (length seen.cells)
  pub complete : IsComplete S n first (length seen.cells) seen.cells

-- nothing can be settled of the pieces that begin before this block
abbrev pub AreUnsettled : SessionSeen → HoldingsSeen → Pieces → ℕ → Type 0
AreUnsettled S h p end = (first : ℕ) → p.from ≤ first → first < end
    → IsPieceUnsettled S h p.tree first

-- the first of these pieces of which something can be settled is settled, and is the first to be
-- looked at next
pub record SettlesNext (S : SessionSeen) (h : HoldingsSeen) (p : Pieces) (e : Settled)
    (S' : SessionSeen) (h' : HoldingsSeen) (p' : Pieces) : Type 0 where
  pub first : ℕ
  pub from : p.from ≤ first
  pub end : first < p.end
  pub passed : AreUnsettled S h p first
  pub settles : SettlesPiece S h p.tree first e S' h'
  pub next : p' ≡ record p { from = first }

-- memory is refused for the first of these pieces of which something can be settled, which is
-- complete; the piece after it is the first to be looked at next
pub record LacksMemoryNext (S : SessionSeen) (h : HoldingsSeen) (p p' : Pieces) : Type 0 where
  pub first : ℕ
  pub from : p.from ≤ first
  pub end : first < p.end
  pub passed : AreUnsettled S h p first
  pub complete : IsPieceComplete S h p.tree first
  pub next : p' ≡ record p { from = first + 1 }

-- something is held of a piece, and settled; its cells stay, even if they are bare
pub record SettlesIn (S : SessionSeen) (h : HoldingsSeen) (q : ℕ × ℕ) (e : Settled)
    (S' : SessionSeen) (h' : HoldingsSeen) : Type 0 where
  pub seen : PieceSeen
  pub there : get h.pieces q ≡ Some seen
  pub piece : HasPiece S q.0 q.1 (length seen.cells)
  pub cells : Cells
  pub settles : Settles S q.0 q.1 (length seen.cells) seen.cells e S' cells
  pub after : h' ≡ with_cells h q seen cells

-- the piece is no longer there if nothing is held of it
abbrev pub Forgets : HoldingsSeen → ℕ × ℕ → HoldingsSeen → Type 0
Forgets h q h' = (((x : PieceSeen) → get h.pieces q ≡ Some x → HoldsSome x.cells) × (h' ≡ h))
    ⊎ ((x : PieceSeen) × (get h.pieces q ≡ Some x) × IsBare x.cells × (h' ≡ without_piece h q))
