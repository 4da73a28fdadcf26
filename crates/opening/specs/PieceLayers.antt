-- Piece layers (BEP 52, "piece layers"): for each file longer than the piece length the hashes of
-- the layer in which one hash covers a piece.
use Rattle.std.specs.Prelude.{ℕ, ◌*◌, Bool, false, not, ◌&&◌, ◌==◌, nat_lt, if◌then◌else◌, List, [], length, Option, Some, None, is_none, option_and_then}
use Rattle.std.specs.Str.{bytes_eq}
use Rattle.std.specs.Cmp.Lexicographic.{slice_cmp}
use Rattle.std.specs.List.Sorted.{IsStrictlySortedBy-prop}
use Rattle.std.specs.Ordering.{nat_cmp}
use Rattle.std.specs.Simd.{first_chunks}
use Rattle.hashtree.specs.Tree.{block_count, height}
pub use Rattle.hashtree.specs.Tree.{root_over}
use Rattle.benc.specs.Value.{Bencode, int, text, list, dict, Pairs}
use Rattle.opening.specs.Description.{TreeEntry}
use Rattle.filetree.specs.Dictionary.{Ascends, keys_in, under}
use Rattle.opening.specs.declared.roots.Root.{Root}
use Rattle.pieces.specs.Pieces.{pieces_of}

-- keys ascend in one way alone
abbrev pub ascends_prop : (ps : Pairs) → IsProp (Ascends ps)
ascends_prop ps = IsStrictlySortedBy-prop (slice_cmp nat_cmp) (keys_in ps)

-- the layer in which one hash covers this many bytes, a power of two of blocks
abbrev pub piece_layer : ℕ → ℕ
piece_layer piece_length = height (block_count piece_length)

-- a byte string of n joined digests of this many bytes, cut into them
abbrev pub as_digests : ℕ → ℕ → Bencode → Option (List (List ℕ))
as_digests width n (int z) = None
as_digests width n (text s) = if length s == width * n then Some (first_chunks width n s) else None
as_digests width n (list vs) = None
as_digests width n (dict ps) = None

-- the layer under a root, one hash for each piece
abbrev pub layer_at : ℕ → Pairs → Root → Option (List (List ℕ))
layer_at piece_length layers t =
    option_and_then (as_digests 32 (pieces_of piece_length t.length)) (under t.root layers)

-- a tree needs a layer if its files are longer than a piece
abbrev pub needs_layer : ℕ → Root → Bool
needs_layer piece_length t = nat_lt piece_length t.length

abbrev pub lacks_layer : ℕ → Pairs → Root → Bool
lacks_layer piece_length layers t = needs_layer piece_length t && is_none (under t.root layers)

abbrev pub lacks_size : ℕ → Pairs → Root → Bool
lacks_size piece_length layers t =
    needs_layer piece_length t && is_none (layer_at piece_length layers t)

-- the tree over the layer
abbrev pub leads_to : ℕ → Root → List (List ℕ) → List ℕ
leads_to piece_length t hashes =
    root_over (height (block_count t.length)) (piece_layer piece_length) hashes

abbrev pub mismatches : ℕ → Pairs → Root → Bool
mismatches piece_length layers t =
    needs_layer piece_length t && differs (layer_at piece_length layers t)
  where
    differs : Option (List (List ℕ)) → Bool
    differs None = false
    differs (Some hashes) = not (bytes_eq (leads_to piece_length t hashes) t.root)

-- a tree of the description
abbrev pub tree_at : ℕ → Pairs → Root → TreeEntry
tree_at piece_length layers t = record {
  root = t.root;
  length = t.length;
  layer = if needs_layer piece_length t then unwrap_hashes (layer_at piece_length layers t) else [];
}
  where
    unwrap_hashes : Option (List (List ℕ)) → List (List ℕ)
    unwrap_hashes None = []
    unwrap_hashes (Some hashes) = hashes
