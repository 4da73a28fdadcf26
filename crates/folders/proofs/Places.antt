-- Where the files of a torrent stand in the version 1 stream.
use Rattle.std.proofs.Common.{◌≡◌, ℕ, ◌+◌, ◌*◌, ◌<◌, ◌≤◌, List, length, take, map, get_or, slice_get, sum_by, option_and_then, option_map, Some, ap}
use Rattle.std.proofs.Common.{sym, subst, ◌^◌, ◌∙◌, arith}
use Rattle.std.proofs.Math.Nat.{mul-le-mul, pow-le-pow_right}
use Rattle.std.proofs.lemmas.Nat.{pow_pos}
use Rattle.std.proofs.lemmas.List.{length-map}
use Rattle.std.proofs.lemmas.List.Sums.{sum_by_more, sum_by-take-le}
use Rattle.std.proofs.lemmas.Option.{slice_get_within, get_or_from_slice_get, slice_get-get_or, slice_get-map}
use Rattle.opening.specs.Seen.{tree_entry}
use Rattle.opening.specs.declared.torrent.TreeInfo.{TreeInfo}
use Rattle.opening.specs.Description.{Description, FileEntry}
use Rattle.opening.specs.Sound.{IsSound, IsSoundFile}
use Rattle.pieces.specs.Pieces.{pieces_of}
use Rattle.pieces.proofs.Cutting.{pieces_cover}
use Rattle.folders.specs.Folder.{stream_start_of, tree_entry_of}

-- how many pieces the first n files have
abbrev pub pieces_before : Description → ℕ → ℕ
pieces_before t n = sum_by (λ g. pieces_of t.piece_length g.length) (take n t.files)

-- the place in the stream at which the file with this number would start
abbrev pub place_before : Description → ℕ → ℕ
place_before t n = pieces_before t n * t.piece_length

pub start_is : (t : Description) (n : ℕ) (f : FileEntry) → IsSound t → slice_get t.files n ≡ Some f → stream_start_of t f ≡ place_before t n
start_is t n f sound is = ap (λ k. k * t.piece_length) (sound.laid_out.first_pieces n f is)

pub pieces_next : (t : Description) (n : ℕ) (f : FileEntry) → slice_get t.files n ≡ Some f
    → pieces_before t (n + 1) ≡ pieces_before t n + pieces_of t.piece_length f.length
pieces_next t n f is =
    sum_by_more (λ g. pieces_of t.piece_length g.length) t.files n f (slice_get_within t.files n f is)
    ∙ ap (λ g. pieces_before t n + pieces_of t.piece_length g.length) (get_or_from_slice_get t.files n f f is)

-- a file ends before the next begins
pub ends_before_next : (t : Description) (n : ℕ) (f : FileEntry) → IsSound t → 0 < t.piece_length → slice_get t.files n ≡ Some f
    → stream_start_of t f + f.length ≤ place_before t (n + 1)
ends_before_next t n f sound some is =
    let next : place_before t (n + 1) ≡ (pieces_before t n + pieces_of t.piece_length f.length) * t.piece_length =
    ap (λ k. k * t.piece_length) (pieces_next t n f is) in
    omega (arith, next, start_is t n f sound is, pieces_cover t.piece_length f.length some)

pub pieces_are_positive : (t : Description) → IsSound t → 0 < t.piece_length
pieces_are_positive t sound = subst (λ n. 0 < n) (sym sound.legal.3) (pow_pos sound.legal.0)

-- where a file starts fits 64 bits
pub start_fits : (t : Description) (n : ℕ) (f : FileEntry) → IsSound t → slice_get t.files n ≡ Some f
    → (f.first_piece < 2 ^ 32) × (f.first_piece * t.piece_length < 2 ^ 64)
start_fits t n f sound is =
    let few : f.first_piece < 2 ^ 32 = omega (
      arith,
      sound.laid_out.first_pieces n f is,
      sound.laid_out.pieces,
      sum_by-take-le (λ g. pieces_of t.piece_length g.length) t.files n,
    ) in
    let short : t.piece_length ≤ 2 ^ 30 = subst (λ p. p ≤ 2 ^ 30) (sym sound.legal.3) (let le : 2 ^ sound.legal.0 ≤ 2 ^ 30 =
    pow-le-pow_right (let o : 0 < 2 = omega arith in o) sound.legal.2 in le) in
    let most : f.first_piece * t.piece_length ≤ 2 ^ 32 * 2 ^ 30 = mul-le-mul (let a : f.first_piece ≤ 2 ^ 32 = omega arith in a) short in
    (few, omega (arith, most))

-- the tree of a file is one of the torrent's
pub tree_inside : (t : Description) (f : FileEntry) (n : ℕ) (trees : List TreeInfo) → map tree_entry trees ≡ t.trees → IsSoundFile t f → f.tree ≡ Some n
    → n < length trees
tree_inside t f n trees is sound at =
    let tree = sound.tree_there n at in
    omega (arith, slice_get_within t.trees n tree.0 tree.1, ap length is, length-map trees tree_entry)

pub tree_there : (t : Description) (f : FileEntry) (n : ℕ) (trees : List TreeInfo) (d : TreeInfo) → map tree_entry trees ≡ t.trees → IsSoundFile t f
    → f.tree ≡ Some n
    → tree_entry_of t f ≡ Some (tree_entry (get_or trees n d))
tree_there t f n trees d is sound at =
    let inside = tree_inside t f n trees is sound at in
    ap (option_and_then (slice_get t.trees)) at
    ∙ ap (λ l. slice_get l n) (sym is) ∙ slice_get-map tree_entry trees n ∙ ap (option_map tree_entry) (slice_get-get_or trees n d inside)
