-- Poison does no harm: a piece of which the newest digests are true is proved, whatever was held
-- before.
use Rattle.std.specs.Prelude.{◌≡◌, ℕ, ◌+◌, ◌<◌, ◌≤◌, List, length, Some, IsSome}
use Rattle.std.specs.FinMap.{get}
use Rattle.sha2.specs.Sha256.{sha256}
use Rattle.hashtree.specs.Tree.{block}
use Rattle.node_maps.specs.Known.{look}
use Rattle.partial_tree.specs.Closed.{Collision, whole}
use Rattle.partial_tree.specs.TreeRoot.{TreeRoot, Fits}
use Rattle.session.specs.Pieces.{HasPiece}
use Rattle.session.specs.Session.{SessionSeen, TreeState, IsTree, HasClosedTrees}
use Rattle.holdings.specs.declared.piece_range.Pieces.{Pieces}
use Rattle.holdings.specs.declared.run.Settled.{Settled}
use Rattle.holdings.specs.declared.run.Settled.TheVariants.{Proved, False}
use Rattle.holdings.specs.Cells.{IsNodeKnown, digest_in, tried_leaf}
use Rattle.holdings.specs.Holdings.{HoldingsSeen, PieceSeen}
use Rattle.holdings.specs.Next.{AreUnsettled, SettlesNext, LacksMemoryNext}

-- a piece is held whose node is known; of each of its blocks the digest that is held, or else the
-- known leaf, is that of the block of the file f, which fits the tree
pub record IsTruePiece (S : SessionSeen) (h : HoldingsSeen) (n first : ℕ) (f : List ℕ) : Type 0
  where
    pub seen : PieceSeen
    pub there : get h.pieces (n, first) ≡ Some seen
    pub piece : HasPiece S n first (length seen.cells)
    pub tree : TreeRoot
    pub state : TreeState
    pub is_tree : IsTree S n tree state
    pub fits : Fits f tree.length tree.root
    pub node : IsNodeKnown S n first
    pub held : (j : ℕ) × (j < length seen.cells) × IsSome (digest_in seen.cells j)
    pub all : (j : ℕ) → j < length seen.cells
        → tried_leaf S n first seen.cells j ≡ Some (sha256 (block f (first + j)))

-- it is not false; or else the collision is named
abbrev pub IsProvedOr : Settled → Type 0 → Type 0
IsProvedOr (Proved run) C = Unit {0}
IsProvedOr (False run) C = C

-- a true piece is not passed over: it is settled, or memory is refused for it, unless a piece
-- before it is; and what is settled of it is proved, or a collision is named
pub record ProvesTruePiece (S : SessionSeen) (h : HoldingsSeen) (p : Pieces) (first : ℕ)
    (f : List ℕ) (true_piece : IsTruePiece S h p.tree first f) : Type 0 where
  pub not_passed : ¬ AreUnsettled S h p p.end
  pub in_turn : (e : Settled) (S' : SessionSeen) (h' : HoldingsSeen) (p' : Pieces)
      (next : SettlesNext S h p e S' h' p') → next.first ≤ first
  pub proved : (e : Settled) (S' : SessionSeen) (h' : HoldingsSeen) (p' : Pieces)
      (next : SettlesNext S h p e S' h' p') → next.first ≡ first
      → IsProvedOr e (Collision (whole f) (look true_piece.state.known))
  pub memory : (p' : Pieces) (next : LacksMemoryNext S h p p') → next.first ≤ first

abbrev pub TruePieceIsProved : Type 0
TruePieceIsProved = (S : SessionSeen) (h : HoldingsSeen) (p : Pieces) (first : ℕ) (f : List ℕ)
    (true_piece : IsTruePiece S h p.tree first f) → HasClosedTrees S → p.from ≤ first
    → first < p.end → ProvesTruePiece S h p first f true_piece
