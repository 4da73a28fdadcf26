-- The version 1 pieces of a file whose digests are listed.
use Rattle.std.proofs.Common.{◌≡◌, ◌∙◌, ℕ, ◌+◌, ◌*◌, ◌-◌, ◌^◌, ◌<◌, ◌≤◌, min, List, ◌++◌, length, take, drop, replicate, slice_get, Some}
use Rattle.std.proofs.Common.{ap, sym, subst, subst₂, get_or, arith}
use Rattle.std.proofs.Math.Nat.{mul-le-mul_left}
use Rattle.std.proofs.lemmas.List.{get_or-drop, get_or-take, length-drop, length-take}
use Rattle.std.proofs.lemmas.Option.{get_or_from_slice_get, slice_get-get_or}
use Rattle.sha1.specs.Sha1.{sha1}
use Rattle.file_windows.specs.Windows.{AreFileCutsListed}
use Rattle.opening.specs.Description.{Description, FileEntry, Version1}
use Rattle.opening.specs.Sound.{IsSound}
use Rattle.pieces.specs.Cuts.{cut, filled_up}
use Rattle.pieces.specs.Pieces.{pieces_of}
use Rattle.pieces.proofs.Cutting.{some_pieces}
use Rattle.folders.proofs.Places.{pieces_are_positive}
use Rattle.parts.specs.Parts.{IsVersion1Good, piece_count}
use Rattle.passes.proofs.Stops.{dropped_item, taken_item}
use Rattle.parts.proofs.RowCuts.{part_fits}
use Rattle.parts.proofs.RowPieces.{row_places}

-- where a file's version 1 pieces end among those that are listed
pub record Ends (t : Description) (v : Version1) (f : FileEntry) : Type 0 where
  pub few : f.first_piece + piece_count t f ≤ 2 ^ 32
  pub bytes : t.piece_length * (f.first_piece + piece_count t f) ≤ 2 ^ 62
  pub listed : f.first_piece + piece_count t f ≤ length v.pieces

pub ends : (t : Description) (v : Version1) (n : ℕ) (f : FileEntry) → IsSound t → slice_get t.files n ≡ Some f → t.v1 ≡ Some v → 0 < f.length → Ends t v f
ends t v n f sound there hybrid some =
    let count : 0 < piece_count t f = some_pieces t.piece_length f.length (pieces_are_positive t sound) some in
    let places = row_places t n f 0 (piece_count t f) sound there count (omega arith) in
    let fits = part_fits t v n f 0 (piece_count t f) sound there hybrid count (omega arith) in
    record { few = places.0; bytes = places.1; listed = fits.0 }

-- how many are listed from one number up to another
pub row_length : (xs : List (List ℕ)) (from to : ℕ) → from ≤ to → to ≤ length xs → length (take (to - from) (drop from xs)) ≡ to - from
row_length xs from to le inside = length-take (to - from) (drop from xs) ∙ omega (arith, length-drop from xs, le, inside)

-- such a piece of a file is as long as the others
whole_cut : (t : Description) (v : Version1) (f : FileEntry) (k : ℕ) → t.piece_length * (f.first_piece + piece_count t f) ≤ v.total → k < piece_count t f
    → t.piece_length ≡ min t.piece_length (v.total - t.piece_length * (f.first_piece + k))
whole_cut t v f k whole lt =
    let pl : ℕ = t.piece_length in
    let next : pl * (f.first_piece + k + 1) ≤ pl * (f.first_piece + piece_count t f) =
    mul-le-mul_left pl (let le : f.first_piece + k + 1 ≤ f.first_piece + piece_count t f = omega (arith, lt) in le) in
    let spot : pl * (f.first_piece + k + 1) ≡ pl * (f.first_piece + k) + pl = omega arith in
    omega (arith, next, spot, whole)

-- a file whose version 1 pieces are all filled up has those that are listed
pub good_cuts : (t : Description) (v : Version1) (f : FileEntry) (bytes : List ℕ) (width : ℕ) → length bytes ≡ f.length → width ≡ piece_count t f
    → f.first_piece + piece_count t f ≤ length v.pieces → t.piece_length * (f.first_piece + piece_count t f) ≤ v.total
    → AreFileCutsListed t.piece_length (take width (drop f.first_piece v.pieces)) bytes → (k : ℕ) → k < piece_count t f → IsVersion1Good t v f bytes k
good_cuts t v f bytes width long is inside whole listed k lt =
    let pl : ℕ = t.piece_length in
    let own : List ℕ = cut pl bytes k in
    let row : List (List ℕ) = take width (drop f.first_piece v.pieces) in
    let count : length row ≡ width = length-take width (drop f.first_piece v.pieces) ∙ omega (arith, length-drop f.first_piece v.pieces, inside, is) in
    let below : k < pieces_of pl (length bytes) = subst (λ n. k < pieces_of pl n) (sym long) lt in
    let found = taken_item width (drop f.first_piece v.pieces) k (sha1 (filled_up pl own)) (listed k (omega (arith, count, is, lt)) below) in
    sym (dropped_item f.first_piece v.pieces k) ∙ found ∙ ap (λ s. Some (sha1 (own ++ replicate (s - length own) 0))) (whole_cut t v f k whole lt)

-- and if they are good, those that are listed are its own
pub said_listed : (t : Description) (v : Version1) (n : ℕ) (f : FileEntry) (bytes : List ℕ) (listed : List (List ℕ)) (width p : ℕ) → IsSound t
    → slice_get t.files n ≡ Some f → t.v1 ≡ Some v → 0 < f.length → length bytes ≡ f.length → width ≡ piece_count t f → p ≡ t.piece_length
    → listed ≡ take width (drop f.first_piece v.pieces) → t.piece_length * (f.first_piece + piece_count t f) ≤ v.total
    → ((k : ℕ) → k < piece_count t f → IsVersion1Good t v f bytes k) → AreFileCutsListed p listed bytes
said_listed t v n f bytes listed width p sound at hybrid some long is pl_is row_is whole good =
    let e = ends t v n f sound at hybrid some in
    let row : List (List ℕ) = take width (drop f.first_piece v.pieces) in
    let count : length row ≡ width = length-take width (drop f.first_piece v.pieces) ∙ omega (arith, length-drop f.first_piece v.pieces, e.listed, is) in
    let are : AreFileCutsListed t.piece_length row bytes = λ k lt below.
    cut_listed t v f bytes k width is count whole (good k (subst (λ n. k < pieces_of t.piece_length n) long below)) lt in
    subst₂ (λ l q. AreFileCutsListed q l bytes) (sym row_is) (sym pl_is) are
  where
    cut_listed : (t : Description) (v : Version1) (f : FileEntry) (bytes : List ℕ) (k width : ℕ) → width ≡ piece_count t f
        → length (take width (drop f.first_piece v.pieces)) ≡ width → t.piece_length * (f.first_piece + piece_count t f) ≤ v.total
        → IsVersion1Good t v f bytes k → k < length (take width (drop f.first_piece v.pieces)) → slice_get (take width (drop f.first_piece v.pieces)) k
        ≡ Some (sha1 (filled_up t.piece_length (cut t.piece_length bytes k)))
    cut_listed t v f bytes k width is count whole good lt =
        let n : ℕ = f.first_piece in
        let own : List ℕ = cut t.piece_length bytes k in
        let row : List (List ℕ) = take width (drop n v.pieces) in
        let x : List ℕ = sha1 (own ++ replicate (min t.piece_length (v.total - t.piece_length * (n + k)) - length own) 0) in
        let found : get_or row k x ≡ x = get_or-take width (drop n v.pieces) k x (omega (arith, lt, count)) ∙ get_or-drop n v.pieces k x
        ∙ get_or_from_slice_get v.pieces (n + k) x x good in
        slice_get-get_or row k x lt ∙ ap (λ y. Some y) found
        ∙ ap (λ s. Some (sha1 (own ++ replicate (s - length own) 0))) (sym (whole_cut t v f k whole (omega (arith, lt, count, is))))
