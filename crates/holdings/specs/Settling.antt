-- How what is held of one piece is settled: marked, or given up.
use Rattle.std.specs.Prelude.{◌≡◌, ◌≢◌, ◌⊎◌, ℕ, zero, suc, ◌+◌, ◌-◌, ◌<◌, Bool, true, false, List, length, set, slice_get, replicate, Option, Some, None}
use Rattle.node_maps.specs.Digest.{Hash}
use Rattle.partial_tree.specs.declared.refusal.PieceRefusal.TheVariants.{BadPiece}
use Rattle.session.specs.Pieces.{AreLeavesTaken, AreLeavesRefused, AreLeavesKnown, HasEndPads, IsLeafMarked}
use Rattle.session.specs.Session.{SessionSeen}
use Rattle.holdings.specs.declared.run.Run.{Run}
use Rattle.holdings.specs.declared.run.Settled.{Settled}
use Rattle.holdings.specs.declared.run.Settled.TheVariants.{Proved, False}
use Rattle.holdings.specs.Cells.{Cells, digest_in, known_at, tried_leaf, AreUnknown, IsComplete}

-- blocks `from` to `last` of a piece, as blocks of its tree
abbrev pub run_of : ℕ → ℕ → ℕ → ℕ → Run
run_of n first from last = record { tree = n; first = first + from; last = first + last }

-- the leaves that a complete piece is tried with
pub record AreTried (S : SessionSeen) (n first size : ℕ) (cells : Cells) (leaves : List Hash)
    : Type 0 where
  pub count : length leaves ≡ size
  pub each : (j : ℕ) → j < size → tried_leaf S n first cells j ≡ slice_get leaves j

-- the leaves of a complete piece lead to its known node, and are joined to what is known, those of
-- the last piece with the pads beside the file's end
pub record IsJoined (S : SessionSeen) (n first size : ℕ) (cells : Cells) (S' : SessionSeen)
    : Type 0 where
  pub complete : IsComplete S n first size cells
  pub leaves : List Hash
  pub tried : AreTried S n first size cells leaves
  pub count : ℕ
  pub taken : AreLeavesTaken S n first leaves count S'
  pub known : AreLeavesKnown S' n first leaves
  pub pads : HasEndPads S' n first

-- the leaves of a complete piece lead to another node than the known one
pub record IsRefuted (S : SessionSeen) (n first size : ℕ) (cells : Cells) : Type 0 where
  pub complete : IsComplete S n first size cells
  pub leaves : List Hash
  pub tried : AreTried S n first size cells leaves
  pub refused : AreLeavesRefused S n first leaves BadPiece

-- the leaves of a complete piece are joined to what is known, or lead to another node than the
-- known one
abbrev pub IsTaken : SessionSeen → ℕ → ℕ → ℕ → Cells → Bool → SessionSeen → Type 0
IsTaken S n first size cells true S' = IsJoined S n first size cells S'
IsTaken S n first size cells false S' = IsRefuted S n first size cells × (S' ≡ S)

-- the digest that is held of block j of the piece is its known leaf; the leaf is marked, and
-- nothing more is held of it
pub record IsBlockMarked (S : SessionSeen) (n first : ℕ) (cells : Cells) (j : ℕ) (S' : SessionSeen)
    (cells' : Cells) : Type 0 where
  pub digest : Hash
  pub held : digest_in cells j ≡ Some digest
  pub marked : IsLeafMarked S n (first + j) digest S'
  pub rest : cells' ≡ set cells j None

-- nothing is held of block j of the piece, or its known leaf, if it has one, is another digest
abbrev pub CannotMark : SessionSeen → ℕ → ℕ → Cells → ℕ → Type 0
CannotMark S n first cells j = (d : Hash) → digest_in cells j ≡ Some d
    → known_at S n 0 (first + j) ≢ Some d

-- this many blocks of the piece, from block j on, are marked one after the other
abbrev pub AreBlocksMarked : SessionSeen → ℕ → ℕ → Cells → ℕ → ℕ → SessionSeen → Cells → Type 0
AreBlocksMarked S n first cells j zero S' cells' = (S' ≡ S) × (cells' ≡ cells)
AreBlocksMarked S n first cells j (suc k) S' cells' = (M : SessionSeen) × (between : Cells)
    × AreBlocksMarked S n first cells j k M between
    × IsBlockMarked M n first between (j + k) S' cells'

-- blocks from `from` on are marked, as many as can be, and at least one
pub record IsMarkedRun (S : SessionSeen) (n first size : ℕ) (cells : Cells) (from : ℕ) (run : Run)
    (S' : SessionSeen) (cells' : Cells) : Type 0 where
  pub more : ℕ
  pub inside : from + more < size
  pub run_is : run ≡ run_of n first from (from + more)
  pub marks : AreBlocksMarked S n first cells from (suc more) S' cells'
  pub longest : from + suc more < size → CannotMark S' n first cells' (from + suc more)

-- one held block is given up, since its digest is not its known leaf
pub record IsGivenUp (S : SessionSeen) (n first : ℕ) (cells : Cells) (from : ℕ) (run : Run)
    (S' : SessionSeen) (cells' : Cells) : Type 0 where
  pub other : CannotMark S n first cells from
  pub run_is : run ≡ run_of n first from from
  pub session : S' ≡ S
  pub rest : cells' ≡ set cells from None

-- a held block is judged by its known leaf
abbrev pub IsBlockJudged : SessionSeen → ℕ → ℕ → ℕ → Cells → ℕ → Settled → SessionSeen → Cells
    → Type 0
IsBlockJudged S n first size cells from (Proved run) S' cells' =
    IsMarkedRun S n first size cells from run S' cells'
IsBlockJudged S n first size cells from (False run) S' cells' =
    IsGivenUp S n first cells from run S' cells'

-- the first held block of the piece whose leaf is known
pub record IsFirstKnownBlock (S : SessionSeen) (n first size : ℕ) (cells : Cells) (from : ℕ)
    : Type 0 where
  pub inside : from < size
  pub digest : Hash
  pub held : digest_in cells from ≡ Some digest
  pub leaf : Hash
  pub known : known_at S n 0 (first + from) ≡ Some leaf
  pub earlier : AreUnknown S n first from cells

-- the first held block with a known leaf is judged by it
pub record IsKnownJudged (S : SessionSeen) (n first size : ℕ) (cells : Cells) (e : Settled)
    (S' : SessionSeen) (cells' : Cells) : Type 0 where
  pub from : ℕ
  pub is_first : IsFirstKnownBlock S n first size cells from
  pub judged : IsBlockJudged S n first size cells from e S' cells'

-- no held block has a known leaf and the piece is complete; it is joined to what is known, and its
-- first run of held blocks is marked
pub record IsPieceProved (S : SessionSeen) (n first size : ℕ) (cells : Cells) (run : Run)
    (S' : SessionSeen) (cells' : Cells) : Type 0 where
  pub unknown : AreUnknown S n first size cells
  pub joined : SessionSeen
  pub join : IsJoined S n first size cells joined
  pub from : ℕ
  pub is_first : IsFirstKnownBlock joined n first size cells from
  pub marked : IsMarkedRun joined n first size cells from run S' cells'

-- no held block has a known leaf and the piece is complete, but its leaves lead to another node
-- than the known one; all of it is given up
pub record IsPieceFalse (S : SessionSeen) (n first size : ℕ) (cells : Cells) (run : Run)
    (S' : SessionSeen) (cells' : Cells) : Type 0 where
  pub unknown : AreUnknown S n first size cells
  pub refuted : IsRefuted S n first size cells
  pub run_is : run ≡ run_of n first 0 (size - 1)
  pub session : S' ≡ S
  pub rest : cells' ≡ replicate (length cells) None

-- all of a complete piece is judged by its known node
abbrev pub IsPieceJudged : SessionSeen → ℕ → ℕ → ℕ → Cells → Settled → SessionSeen → Cells → Type 0
IsPieceJudged S n first size cells (Proved run) S' cells' =
    IsPieceProved S n first size cells run S' cells'
IsPieceJudged S n first size cells (False run) S' cells' =
    IsPieceFalse S n first size cells run S' cells'

-- one settling of the piece of `size` blocks of tree n, from block `first` on
abbrev pub Settles : SessionSeen → ℕ → ℕ → ℕ → Cells → Settled → SessionSeen → Cells → Type 0
Settles S n first size cells e S' cells' = IsKnownJudged S n first size cells e S' cells'
    ⊎ IsPieceJudged S n first size cells e S' cells'
