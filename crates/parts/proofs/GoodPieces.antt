-- The numbers of a file's pieces.
use Rattle.std.proofs.Common.{◌≡◌, ℕ, ◌+◌, ◌*◌, ◌^◌, ◌<◌, ◌≤◌, length, slice_get, Some, ap, sym, ◌∙◌, subst, arith}
use Rattle.std.proofs.Math.Nat.{mul-le-mul, pow-le-pow_right}
use Rattle.std.proofs.lemmas.List.Sums.{sum_by-take-le}
use Rattle.opening.specs.Description.{Description, FileEntry, TreeEntry}
use Rattle.pieces.specs.Pieces.{pieces_of}
use Rattle.opening.specs.Sound.{IsSound}
use Rattle.folders.specs.Folder.{tree_entry_of}
use Rattle.folders.proofs.Places.{pieces_are_positive, pieces_next}
use Rattle.folders.proofs.Reports.{has_tree, sound_tree}
use Rattle.parts.specs.Parts.{piece_count}
use Rattle.parts.proofs.Streams.{in_pieces}

-- a piece of a file is a piece of the torrent, and begins below 2 ^ 64
pub piece_fits : (t : Description) (n : ℕ) (f : FileEntry) (k : ℕ) → IsSound t → slice_get t.files n ≡ Some f → k < piece_count t f
    → (f.first_piece + k < 2 ^ 32) × (t.piece_length * (f.first_piece + k) < 2 ^ 64) × (t.piece_length * k < f.length) × (t.piece_length ≤ 2 ^ 30)
piece_fits t n f k sound is lt =
    let f_pieces : FileEntry → ℕ = λ g. pieces_of t.piece_length g.length in
    let few : f.first_piece + k < 2 ^ 32 = omega (
      arith,
      lt,
      pieces_next t n f is,
      sound.laid_out.first_pieces n f is,
      sum_by-take-le f_pieces t.files
          (n + 1),
      sound.laid_out.pieces,
    ) in
    let short : t.piece_length ≤ 2 ^ 30 = subst (λ p. p ≤ 2 ^ 30) (sym sound.legal.3) (let le : 2 ^ sound.legal.0 ≤ 2 ^ 30 = pow-le-pow_right
    (let o : 0 < 2 = omega arith in o) sound.legal.2 in le) in
    let most : t.piece_length * (f.first_piece + k) ≤ 2 ^ 30 * 2 ^ 32 = mul-le-mul short (let a : f.first_piece + k ≤ 2 ^ 32 = omega arith in a) in
    (few, omega (arith, most), in_pieces t.piece_length k f.length (pieces_are_positive t sound) lt, short)

-- a piece of a longer file is one of its layer
pub in_layer : (t : Description) (n : ℕ) (f : FileEntry) (e : TreeEntry) (k : ℕ) → IsSound t → slice_get t.files n ≡ Some f → tree_entry_of t f ≡ Some e
    → t.piece_length < f.length → k < piece_count t f
    → k < length e.layer
in_layer t n f e k sound there is long lt =
    let len = (has_tree t n f e sound there is).0 in
    let count = (sound_tree t f e sound is).layer_length (omega (arith, long, len)) in
    subst (λ m. k < m) (sym (count ∙ ap (pieces_of t.piece_length) len)) lt
