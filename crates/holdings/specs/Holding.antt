-- What becomes of a block that is to be held.
use Rattle.std.specs.Prelude.{◌≡◌, ℕ, ◌+◌, ◌<◌, List, slice_get, Option, Some, None, IsSome}
use Rattle.sha2.specs.Sha256.{sha256}
use Rattle.hashtree.specs.Tree.{block_count}
use Rattle.partial_tree.specs.TreeRoot.{TreeRoot}
use Rattle.session.specs.Layouts.{roots}
use Rattle.partial_tree.specs.LeafRows.{IsLeafRow}
use Rattle.session.specs.Pieces.{piece_span}
use Rattle.session.specs.Session.{SessionSeen}
use Rattle.holdings.specs.declared.run.Run.{Run}
use Rattle.holdings.specs.declared.holding.Hold.{Hold}
use Rattle.holdings.specs.declared.holding.Hold.TheVariants.{Held, Known, NoMemory}
use Rattle.holdings.specs.Cells.{known_at}
use Rattle.holdings.specs.Holdings.{HoldingsSeen, KeepsDigest, CannotKeep}

-- the files of tree n have this block
abbrev pub IsTreeBlock : SessionSeen → ℕ → ℕ → Type 0
IsTreeBlock S n b = (t : TreeRoot) → slice_get (roots S) n ≡ Some t → b < block_count t.length

-- the leaf of block b of tree n is not known, and the digest of these bytes is held for it
pub record IsHeldNow (h : HoldingsSeen) (S : SessionSeen) (n b : ℕ) (bytes : List ℕ)
    (dropped : Option Run) (h' : HoldingsSeen) : Type 0 where
  pub unknown : known_at S n 0 b ≡ None
  pub tree : TreeRoot
  pub is_tree : slice_get (roots S) n ≡ Some tree
  pub first : ℕ
  pub size : ℕ
  pub piece : IsLeafRow tree.length first (piece_span S.torrent.piece_length tree.length) size
  pub at : ℕ
  pub inside : at < size
  pub block_is : b ≡ first + at
  pub keeps : KeepsDigest h (n, first) size at (sha256 bytes) dropped h'

-- the leaf of block b of tree n is not known, and no digest can be held for it
pub record CannotHold (h : HoldingsSeen) (S : SessionSeen) (n b : ℕ) : Type 0 where
  pub unknown : known_at S n 0 b ≡ None
  pub tree : TreeRoot
  pub is_tree : slice_get (roots S) n ≡ Some tree
  pub first : ℕ
  pub size : ℕ
  pub piece : IsLeafRow tree.length first (piece_span S.torrent.piece_length tree.length) size
  pub at : ℕ
  pub inside : at < size
  pub block_is : b ≡ first + at
  pub cannot : CannotKeep h (n, first) size at

-- what becomes of a block that is to be held
abbrev pub IsBlockHeldBy : HoldingsSeen → SessionSeen → ℕ → ℕ → List ℕ → Hold → HoldingsSeen
    → Type 0
IsBlockHeldBy h S n b bytes (Held dropped) h' = IsHeldNow h S n b bytes dropped h'
IsBlockHeldBy h S n b bytes Known h' = IsSome (known_at S n 0 b) × (h' ≡ h)
IsBlockHeldBy h S n b bytes NoMemory h' = CannotHold h S n b × (h' ≡ h)
