-- Whole pieces in a session (BEP 52, "piece layers"): their leaves lead to the node that covers
-- the piece.
use Rattle.std.specs.Prelude.{Result, Ok, Err, ◌⊎◌, ◌≡◌, ◌+◌, ◌<◌, ◌≢◌, ℕ, ◌-◌, ◌*◌, ◌/◌, ◌^◌, ◌≤◌, min, List, length, set, slice_get, Some, None}
use Rattle.sha2.specs.Sha256.{sha256}
use Rattle.node_maps.specs.Digest.{Hash}
use Rattle.std.specs.FinSet as leaves
use Rattle.session.specs.Layouts.{roots, tree_of}
use Rattle.partial_tree.specs.TreeRoot.{TreeRoot}
use Rattle.node_maps.specs.Known.{look}
use Rattle.node_maps.specs.Places.{tree_height, PartialTree, IsKnown}
use Rattle.hashtree.specs.Tree.{block, block_count}
use Rattle.opening.specs.PieceLayers.{piece_layer}
use Rattle.opening.specs.Places.{place_of}
use Rattle.partial_tree.specs.Closed.{Collision, whole}
use Rattle.partial_tree.specs.Claims.{HasNew, IsMismatch}
use Rattle.partial_tree.specs.EndPads.{AreEndPadsKnown}
use Rattle.partial_tree.specs.Kept.{TreeState}
use Rattle.partial_tree.specs.LeafRows.{row_claims, row_joins, IsLeafRow, RowRefuses, TakesRow, mark_run}
use Rattle.partial_tree.specs.LeafPieces.{IsPieceRow, leaves_in}
use Rattle.partial_tree.specs.declared.refusal.PieceRefusal.{PieceRefusal}
use Rattle.partial_tree.specs.declared.refusal.PieceRefusal.TheVariants.{BadPlace, BadSize, Unproved, BadPiece, NoMemory}
use Rattle.partial_tree.specs.TreeRoot.{Fits}
use Rattle.session.specs.Session.{SessionSeen, IsTree, IsInFile, IsFileBlock}

-- the layer of the node that covers a piece of a file of this length: the piece layer, or the root
-- if the file has no more than one piece
abbrev pub piece_span : ℕ → ℕ → ℕ
piece_span piece_length len = min (piece_layer piece_length) (tree_height len)

-- ---- the leaves of a piece

-- this many leaves of tree n, from one on, are those of a piece of its files
abbrev pub HasPiece : SessionSeen → ℕ → ℕ → ℕ → Type 0
HasPiece S n first count = (t : TreeRoot) → slice_get (roots S) n ≡ Some t
    → IsLeafRow t.length first (piece_span S.torrent.piece_length t.length) count

-- leaves of a piece are joined to what is known of tree n, from one on, with c more places
pub record AreLeavesTaken (S : SessionSeen) (n first : ℕ) (leaves : List Hash) (c : ℕ)
    (S' : SessionSeen) : Type 0 where
  pub tree : TreeRoot
  pub before : TreeState
  pub after : TreeState
  pub is_tree : IsTree S n tree before
  pub row : IsLeafRow tree.length first (piece_span S.torrent.piece_length tree.length)
      (length leaves)
  pub taken : TakesRow tree.length first (piece_span S.torrent.piece_length tree.length) leaves
      before.known c after.known
  pub marks_stay : after.marked ≡ before.marked
  pub state_after : S' ≡ record S { trees = set S.trees n after }

-- the first test of leaves of a piece of tree n that fails; or out of memory, if none does and a
-- place is new
pub record AreLeavesRefused (S : SessionSeen) (n first : ℕ) (leaves : List Hash) (r : PieceRefusal)
    : Type 0 where
  pub tree : TreeRoot
  pub before : TreeState
  pub is_tree : IsTree S n tree before
  pub refuses : RowRefuses tree.length (look before.known) first
      (piece_span S.torrent.piece_length tree.length) leaves r

-- each of these leaves of tree n is known, from one on
abbrev pub AreLeavesKnown : SessionSeen → ℕ → ℕ → List Hash → Type 0
AreLeavesKnown S n first leaves = (tree : TreeRoot) (s : TreeState) → IsTree S n tree s
    → (j : ℕ) → j < length leaves → look s.known 0 (first + j) ≡ slice_get leaves j

-- if the piece of tree n from this block on is the last one, the pads beside the file's end are
-- known
abbrev pub HasEndPads : SessionSeen → ℕ → ℕ → Type 0
HasEndPads S n first = (tree : TreeRoot) (s : TreeState) → IsTree S n tree s
    → block_count tree.length ≤ first + 2 ^ piece_span S.torrent.piece_length tree.length
    → AreEndPadsKnown tree.length (look s.known)

-- the true leaves of a piece, whose node is known, are taken, unless memory is refused for them or
-- a collision is named
abbrev pub TakesTrueLeaves : SessionSeen → ℕ → ℕ → List Hash → Result ℕ PieceRefusal → Type 0
TakesTrueLeaves S n first leaves r = (tree : TreeRoot) (s : TreeState) (f : List ℕ)
    → IsTree S n tree s → Fits f tree.length tree.root
    → ((j : ℕ) → j < length leaves → slice_get leaves j ≡ Some (sha256 (block f (first + j))))
    → IsKnown (look s.known) (piece_span S.torrent.piece_length tree.length)
    (first / 2 ^ piece_span S.torrent.piece_length tree.length)
    → ((c : ℕ) × (r ≡ Ok c)) ⊎ ((r ≡ Err NoMemory) ⊎ Collision (whole f) (look s.known))

-- one leaf of tree n is marked
abbrev pub with_leaf_marked : SessionSeen → ℕ → TreeState → ℕ → SessionSeen
with_leaf_marked S n s block = record S {
  trees = set S.trees n (record s { marked = leaves.insert s.marked block });
}

-- a digest is the known leaf of a block of tree n, and that leaf is marked
abbrev pub IsLeafMarked : SessionSeen → ℕ → ℕ → Hash → SessionSeen → Type 0
IsLeafMarked S n block digest S' = (s : TreeState) × (slice_get S.trees n ≡ Some s)
    × (look s.known 0 block ≡ Some digest) × (S' ≡ with_leaf_marked S n s block)

-- a digest is not the known leaf of a block of tree n
abbrev pub IsNoLeaf : SessionSeen → ℕ → ℕ → Hash → Type 0
IsNoLeaf S n block digest = (s : TreeState) × (slice_get S.trees n ≡ Some s)
    × (look s.known 0 block ≢ Some digest)

-- ---- the bytes of a piece

-- how many bytes the piece has that begins with this block of a file of this length
abbrev pub piece_size : ℕ → ℕ → ℕ → ℕ
piece_size piece_length len first = min piece_length (len - 16384 * first)

-- the bytes are as many as that piece has
abbrev pub HasPieceSize : SessionSeen → ℕ → ℕ → List ℕ → Type 0
HasPieceSize S len first bytes = length bytes ≡ piece_size S.torrent.piece_length len first

-- the leaves of bytes are joined to what is known of a file's tree, from block `first` on, and
-- marked
pub record IsTakenFrom (S : SessionSeen) (file first : ℕ) (bytes : List ℕ) (S' : SessionSeen)
    : Type 0 where
  pub in_file : IsInFile S file first
  pub size : HasPieceSize S in_file.tree.length first bytes
  pub row : IsPieceRow in_file.tree.length first
      (piece_span S.torrent.piece_length in_file.tree.length) (length bytes)
  pub count : ℕ
  pub after : TreeState
  pub taken : TakesRow in_file.tree.length first
      (piece_span S.torrent.piece_length in_file.tree.length) (leaves_in bytes)
      in_file.state.known count after.known
  pub marks : after.marked
      ≡ mark_run in_file.state.marked first (block_count (length bytes))
  pub state_after : S' ≡ record S { trees = set S.trees in_file.tree_number after }

-- the piece's leaves are joined to what is known of its file's tree, and marked
abbrev pub IsTakenPiece : SessionSeen → ℕ → List ℕ → ℕ → ℕ → SessionSeen → Type 0
IsTakenPiece S index bytes file first S' = (place_of S.torrent index 0 ≡ Some (file, first))
    × IsTakenFrom S file first bytes S'

-- why bytes are refused from block `first` on, of whose tree of files of length len K is known
abbrev pub PieceFault : ℕ → ℕ → PartialTree → ℕ → List ℕ → PieceRefusal → Type 0
PieceFault p len K first bytes BadSize = length bytes ≢ piece_size p len first
PieceFault p len K first bytes Unproved = (length bytes ≡ piece_size p len first)
    × (K (piece_span p len) (first / 2 ^ piece_span p len) ≡ None)
PieceFault p len K first bytes BadPiece = (length bytes ≡ piece_size p len first)
    × IsKnown K (piece_span p len) (first / 2 ^ piece_span p len)
    × IsMismatch K (row_claims first (piece_span p len) (leaves_in bytes))
PieceFault p len K first bytes NoMemory = (length bytes ≡ piece_size p len first)
    × IsKnown K (piece_span p len) (first / 2 ^ piece_span p len)
    × HasNew K (row_joins len first (piece_span p len) (leaves_in bytes))
PieceFault p len K first bytes BadPlace = ⊥

-- the first test of bytes from block `first` on that fails
abbrev pub IsRefusedFrom : SessionSeen → ℕ → ℕ → List ℕ → PieceRefusal → Type 0
IsRefusedFrom S file first bytes r = (p : IsInFile S file first)
    × PieceFault S.torrent.piece_length p.tree.length (look p.state.known) first bytes r

-- the first test of a piece that fails
abbrev pub IsPieceRefused : SessionSeen → ℕ → List ℕ → PieceRefusal → Type 0
IsPieceRefused S index bytes BadPlace = place_of S.torrent index 0 ≡ None
IsPieceRefused S index bytes r = (file : ℕ) × (first : ℕ)
    × (place_of S.torrent index 0 ≡ Some (file, first)) × IsRefusedFrom S file first bytes r

-- each block of the bytes is that block of the file, from block `first` on
abbrev pub ArePieceBlocks : SessionSeen → List ℕ → ℕ → ℕ → Type 0
ArePieceBlocks S bytes file first = (j : ℕ) → j < block_count (length bytes)
    → IsFileBlock S file (first + j) (block bytes j)

-- the same of a file's tree
abbrev pub HasFileEndPads : SessionSeen → ℕ → ℕ → Type 0
HasFileEndPads S file first = (n : ℕ) → tree_of S file ≡ Some n → HasEndPads S n first

-- a true piece, whose node is known, is taken, unless memory is refused for it or a collision is
-- named
abbrev pub TakesTruePiece : SessionSeen → ℕ → List ℕ → Result (ℕ × ℕ) PieceRefusal → Type 0
TakesTruePiece S index bytes r = (file first : ℕ) (p : IsInFile S file first) (f : List ℕ)
    → place_of S.torrent index 0 ≡ Some (file, first) → Fits f p.tree.length p.tree.root
    → IsPieceRow p.tree.length first (piece_span S.torrent.piece_length p.tree.length)
    (length bytes)
    → HasPieceSize S p.tree.length first bytes
    → ((j : ℕ) → j < block_count (length bytes) → block bytes j ≡ block f (first + j))
    → IsKnown (look p.state.known) (piece_span S.torrent.piece_length p.tree.length)
    (first / 2 ^ piece_span S.torrent.piece_length p.tree.length)
    → (r ≡ Ok (file, first)) ⊎ ((r ≡ Err NoMemory)
    ⊎ Collision (whole f) (look p.state.known))
