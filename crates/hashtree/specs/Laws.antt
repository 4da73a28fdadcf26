-- The laws of the tree of each file (BEP 52).
use Rattle.std.specs.Prelude.{◌≡◌, ◌⊎◌, ◌↔◌, ℕ, suc, ◌+◌, ◌*◌, ◌^◌, ◌<◌, ◌≤◌, ◌++◌, List, [], Option, drop, length, slice_index_or}
use Rattle.sha2.specs.Sha256.{sha256}
use Rattle.hashtree.specs.Bits.{bit_of}
use Rattle.hashtree.specs.Judging.{IsJudgedRow}
use Rattle.hashtree.specs.Pieces.{piece_at, piece_node, piece_nodes}
use Rattle.hashtree.specs.Tree.{HasPlace, block, block_count, height, layer_of, node, root_of, root_over, zero_hash}

-- the leaf of a block is the block's digest
abbrev pub LeavesAreDigests : Type 0
LeavesAreDigests = (file : List ℕ) (i : ℕ) → i < block_count (length file)
    → node file 0 i ≡ sha256 (block file i)

-- a node above the leaves is the digest of its left child followed by its right child
abbrev pub NodesJoinChildren : Type 0
NodesJoinChildren = (file : List ℕ) (layer i : ℕ)
    → node file (suc layer) i ≡ sha256 (node file layer (2 * i) ++ node file layer (2 * i + 1))

-- a node wholly past the file's end is the zero hash of its layer
abbrev pub PadsAreZeroHashes : Type 0
PadsAreZeroHashes = (file : List ℕ) (layer i : ℕ) → HasPlace (length file) layer i
    → block_count (length file) ≤ i * 2 ^ layer
    → node file layer i ≡ zero_hash layer

-- the node at the top is the root
abbrev pub TopIsRoot : Type 0
TopIsRoot = (file : List ℕ) → node file (height (block_count (length file))) 0 ≡ root_of file

-- the root over each layer of a file's tree, given without its pads, is the file's root
abbrev pub LayersLeadToRoot : Type 0
LayersLeadToRoot = (file : List ℕ) (layer : ℕ) → layer ≤ height (block_count (length file))
    → root_over (height (block_count (length file))) layer (layer_of file layer) ≡ root_of file

-- a node of the file's tree is that over its piece alone
abbrev pub PiecesHaveNodes : Type 0
PiecesHaveNodes = (file : List ℕ) (layer i : ℕ) → HasPlace (length file) layer i
    → node file layer i ≡ piece_node layer (piece_at layer file i)

-- the root of a file is the node over it as one piece
abbrev pub OnlyPieceHasRoot : Type 0
OnlyPieceHasRoot = (file : List ℕ)
    → root_of file ≡ piece_node (height (block_count (length file))) file

-- These bytes are some of the file's pieces in a row, from one on: the node over piece j of them is
-- that over its piece of the file, if the row has that piece whole or ends with the file.
abbrev pub RowsHaveNodes : Type 0
RowsHaveNodes = (file own rest : List ℕ) (layer from j : ℕ)
    → drop (16384 * (from * 2 ^ layer)) file ≡ own ++ rest
    → layer ≤ height (block_count (length file))
    → j < length (piece_nodes layer own)
    → (16384 * ((j + 1) * 2 ^ layer) ≤ length own) ⊎ (rest ≡ [])
    → slice_index_or (piece_nodes layer own) j [] ≡ node file layer (from + j)

-- the nodes over the pieces of two rows of bytes, of which the first is this many whole pieces, are
-- those of the one, and then those of the other
abbrev pub RowsJoin : Type 0
RowsJoin = (xs ys : List ℕ) (layer k : ℕ) → length xs ≡ 16384 * (k * 2 ^ layer)
    → piece_nodes layer (xs ++ ys) ≡ piece_nodes layer xs ++ piece_nodes layer ys

-- These bytes are some of the file's pieces in a row, and were judged: the bit of piece j tells
-- whether the file's node over it is the given hash, if the row has the piece whole or ends with
-- the file.
abbrev pub RowsTellPieces : Type 0
RowsTellPieces = (file own rest : List ℕ) (layer from j : ℕ) (hashes : List (List ℕ))
    (good : List ℕ) (other : Option ℕ) → IsJudgedRow layer hashes own good other
    → drop (16384 * (from * 2 ^ layer)) file ≡ own ++ rest
    → layer ≤ height (block_count (length file))
    → j < length (piece_nodes layer own)
    → (16384 * ((j + 1) * 2 ^ layer) ≤ length own) ⊎ (rest ≡ [])
    → j < 8 * length good
    → (bit_of good j ≡ 1) ↔ (node file layer (from + j) ≡ slice_index_or hashes j [])
