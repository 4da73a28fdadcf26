-- The cells of one piece: of each of its blocks the digest that is held, or nothing.
use Rattle.std.specs.Prelude.{◌≡◌, ◌⊎◌, ℕ, ◌+◌, ◌/◌, ◌^◌, ◌<◌, List, length, slice_get, Option, Some, None, IsSome}
use Rattle.std.specs.List.{slice_index_or}
use Rattle.std.specs.Option.{option_or}
use Rattle.node_maps.specs.Digest.{Hash}
use Rattle.node_maps.specs.Known.{look}
use Rattle.partial_tree.specs.TreeRoot.{TreeRoot}
use Rattle.session.specs.Layouts.{roots}
use Rattle.session.specs.Pieces.{piece_span}
use Rattle.session.specs.Session.{SessionSeen, TreeState}

-- of each block of a piece, in order, the digest that is held
abbrev pub Cells : Type 0
Cells = List (Option Hash)

-- the digest that is held of block j of a piece
abbrev pub digest_in : Cells → ℕ → Option Hash
digest_in cells j = slice_index_or cells j None

-- what is known at a place of a tree, if there is one
abbrev pub known_in : Option TreeState → ℕ → ℕ → Option Hash
known_in None l i = None
known_in (Some s) l i = look s.known l i

-- what a session knows at a place of tree n
abbrev pub known_at : SessionSeen → ℕ → ℕ → ℕ → Option Hash
known_at S n l i = known_in (slice_get S.trees n) l i

-- the hash of the node that covers the piece of tree n from block `first` on is known
abbrev pub IsNodeKnown : SessionSeen → ℕ → ℕ → Type 0
IsNodeKnown S n first = (t : TreeRoot) × (slice_get (roots S) n ≡ Some t)
    × IsSome (known_at S n (piece_span S.torrent.piece_length t.length)
    (first / 2 ^ piece_span S.torrent.piece_length t.length))

-- the leaf of a block as far as the piece is concerned: the digest that is held, or else the known
-- leaf
abbrev pub tried_leaf : SessionSeen → ℕ → ℕ → Cells → ℕ → Option Hash
tried_leaf S n first cells j = option_or (digest_in cells j) (known_at S n 0 (first + j))

-- the piece of `size` blocks can be tried: its node is known, something is held of it, and each of
-- its blocks is held or known
pub record IsComplete (S : SessionSeen) (n first size : ℕ) (cells : Cells) : Type 0 where
  pub node : IsNodeKnown S n first
  pub held : (j : ℕ) × (j < size) × IsSome (digest_in cells j)
  pub all : (j : ℕ) → j < size → IsSome (tried_leaf S n first cells j)

-- no held block of the piece has a known leaf
abbrev pub AreUnknown : SessionSeen → ℕ → ℕ → ℕ → Cells → Type 0
AreUnknown S n first size cells = (j : ℕ) → j < size → IsSome (digest_in cells j)
    → known_at S n 0 (first + j) ≡ None

-- nothing of the piece can be settled: no held block has a known leaf, and the piece is not
-- complete
pub record IsUnsettled (S : SessionSeen) (n first size : ℕ) (cells : Cells) : Type 0 where
  pub unknown : AreUnknown S n first size cells
  pub incomplete : ¬ IsComplete S n first size cells
