-- The version 1 pieces of a row are those of the file; and all that comparing a row finds.
use Rattle.std.proofs.Common.{◌≡◌, ℕ, ◌+◌, ◌-◌, ◌*◌, ◌<◌, ◌≤◌, min, List, [], ◌++◌, length, drop, replicate}
use Rattle.std.proofs.Common.{get_or, slice_get, Option, Some, ap, ap₂, sym, ◌∙◌, subst, arith}
use Rattle.std.specs.Prelude.{slice_range}
use Rattle.std.specs.Option.{option_map}
use Rattle.std.proofs.Math.Nat.{mul-le-mul_left}
use Rattle.std.proofs.lemmas.List.{length-append, length-replicate}
use Rattle.std.proofs.lemmas.Option.{same_Some, slice_get-get_or, get_or_from_slice_get}
use Rattle.sha1.specs.Sha1.{sha1}
use Rattle.hashtree.specs.Difference.{IsComparison}
use Rattle.opening.specs.Description.{Description, FileEntry, Version1}
use Rattle.opening.specs.Sound.{IsSound}
use Rattle.pieces.specs.Cuts.{cut, cut_digests}
use Rattle.pieces.specs.Pieces.{pieces_of}
use Rattle.pieces.proofs.Cutting.{digest_of_cut, length-cut_digests}
use Rattle.folders.proofs.Places.{pieces_are_positive}
use Rattle.parts.specs.FilePieces.{IsFirstBadNumber}
use Rattle.parts.specs.Parts.{IsVersion1Good, piece_count, version1_piece}
use Rattle.parts.specs.RowChecks.{row_bytes, stream_part}
use Rattle.parts.proofs.Streams.{to_pieces}
use Rattle.parts.proofs.RowPieces.{IsRow, filled_cut, first_of_rows, in_range, last_begins, pieces_between, range_length, row_piece, within_row}

-- ---- the version 1 pieces

-- the row's part of the stream has its bytes, and as many cuts as it has pieces
pub part_fits : (t : Description) (v : Version1) (n : ℕ) (f : FileEntry) (from to : ℕ) → IsSound t → slice_get t.files n ≡ Some f → t.v1 ≡ Some v
    → from < to → to ≤ piece_count t f
    → (f.first_piece + to ≤ length v.pieces)
    × (row_bytes t f from to ≤ (stream_part t.piece_length v (f.first_piece + from) (f.first_piece + to)).total)
    × (pieces_of t.piece_length (stream_part t.piece_length v (f.first_piece + from) (f.first_piece + to)).total ≡ to - from)
    × (t.piece_length * (f.first_piece + from) ≤ v.total)
part_fits t v n f from to sound there hybrid piece inside =
    let pl : ℕ = t.piece_length in
    let some : 0 < pl = pieces_are_positive t sound in
    let last_at = last_begins t f from to some piece inside in
    let fits : f.first_piece * pl + f.length ≤ v.total = sound.in_stream v n f hybrid there (omega (arith, last_at)) in
    let start : pl * (f.first_piece + (to - 1)) ≡ f.first_piece * pl + pl * (to - 1) = omega arith in
    let last : pl * (f.first_piece + (to - 1)) < v.total = omega (arith, start, last_at, fits) in
    let from_is : pl * (f.first_piece + from) ≡ f.first_piece * pl + pl * from = omega arith in
    let to_is : pl * (f.first_piece + to) ≡ f.first_piece * pl + pl * to = omega arith in
    let below : pl * from ≤ pl * (to - 1) = mul-le-mul_left pl (let a : from ≤ to - 1 = omega (arith, piece) in a) in
    let end : pl * to ≡ pl * (to - 1) + pl = ap (λ k. pl * k) (let a : to ≡ to - 1 + 1 = omega (arith, piece) in a) ∙ omega arith in
    let rows : pl * (to - from - 1) + pl * from ≡ pl * (to - 1) = (let a : pl * (to - from - 1) + pl * from ≡ pl * (to - from - 1 + from) = omega arith in a)
    ∙ ap (λ k. pl * k) (let a : to - from - 1 + from ≡ to - 1 = omega (arith, piece) in a) in
    let total : ℕ = (stream_part pl v (f.first_piece + from) (f.first_piece + to)).total in
    let high : total ≤ pl * (to - from - 1) + pl = omega (arith, from_is, to_is, end, rows) in
    let low : pl * (to - from - 1) < total = omega (arith, from_is, to_is, end, rows, last, start, below, some) in (
      subst (λ k. f.first_piece + to ≤ k) (sym (sound.cuts v hybrid))
          (omega (arith, to_pieces pl (f.first_piece + (to - 1)) v.total some last, piece)),
      omega (arith, fits, from_is, to_is),
      pieces_between pl (to - from) total some (omega (arith, piece)) low high,
      omega (arith, last, start, from_is, below),
    )

-- the cut of the row's part of the stream is the version 1 piece there
row_cut : (t : Description) (v : Version1) (n : ℕ) (f : FileEntry) (from to j : ℕ) (bytes own rest : List ℕ) → IsSound t → slice_get t.files n ≡ Some f
    → t.v1 ≡ Some v → IsRow t f from to own → from + j < to
    → drop (t.piece_length * from) bytes ≡ own ++ rest → (to ≡ piece_count t f → length bytes ≡ f.length)
    → cut t.piece_length (own ++ replicate ((stream_part t.piece_length v (f.first_piece + from) (f.first_piece + to)).total - length own) 0) j
    ≡ version1_piece t v f bytes (from + j)
row_cut t v n f from to j bytes own rest sound there hybrid row lt at end =
    let pl : ℕ = t.piece_length in
    let some : 0 < pl = pieces_are_positive t sound in
    let total : ℕ = (stream_part pl v (f.first_piece + from) (f.first_piece + to)).total in
    let within = within_row t f from to j own some row lt in
    let fits = part_fits t v n f from to sound there hybrid row.piece row.inside in
    let own_fits : length own ≤ total = omega (arith, row.count, fits.1) in
    let place : pl * (f.first_piece + (from + j)) ≡ pl * (f.first_piece + from) + pl * j = omega arith in
    let high : pl * (f.first_piece + (from + j) + 1) ≤ pl * (f.first_piece + to) =
    mul-le-mul_left pl (let a : f.first_piece + (from + j) + 1 ≤ f.first_piece + to = omega (arith, lt) in a) in
    let next : pl * (f.first_piece + (from + j) + 1) ≡ pl * (f.first_piece + (from + j)) + pl = omega arith in
    let size : min pl (total - pl * j) ≡ min pl (v.total - pl * (f.first_piece + (from + j))) = omega (arith, place, high, next) in
    filled_cut pl total j own own_fits (omega (arith, within.begins))
    ∙ ap₂ (λ p s. p ++ replicate (s - length p) 0) (row_piece t f from to j bytes own rest some row lt at end) size

-- there are as many digests of the row's cuts as pieces, and as many that are listed
pub row_lengths : (t : Description) (v : Version1) (n : ℕ) (f : FileEntry) (from to : ℕ) (own : List ℕ) → IsSound t → slice_get t.files n ≡ Some f
    → t.v1 ≡ Some v → IsRow t f from to own
    → (length (cut_digests t.piece_length (own
    ++ replicate ((stream_part t.piece_length v (f.first_piece + from) (f.first_piece + to)).total - length own) 0)) ≡ to - from)
    × (length (slice_range v.pieces (f.first_piece + from) (f.first_piece + to)) ≡ to - from)
row_lengths t v n f from to own sound there hybrid row =
    let pl : ℕ = t.piece_length in
    let first : ℕ = f.first_piece + from in
    let past : ℕ = f.first_piece + to in
    let total : ℕ = (stream_part pl v first past).total in
    let fits = part_fits t v n f from to sound there hybrid row.piece row.inside in
    let stream : List ℕ = own ++ replicate (total - length own) 0 in
    let stream_len : length stream ≡ total = omega (
      arith,
      fits.1,
      row.count,
      length-append own (replicate (total - length own) 0),
      length-replicate {A = ℕ} (total - length own) 0,
    ) in
    let listed : length (slice_range v.pieces first past) ≡ past - first = range_length v.pieces first past fits.0 in (
      length-cut_digests pl stream ∙ ap (pieces_of pl) stream_len ∙ fits.2,
      omega (arith, listed),
    )

-- the digests of the row's cuts were compared with its part of those that are listed
abbrev pub AreCompared : Description → Version1 → FileEntry → ℕ → ℕ → List ℕ → Option ℕ → Type 0
AreCompared t v f from to own found =
    IsComparison (cut_digests t.piece_length (own
    ++ replicate ((stream_part t.piece_length v (f.first_piece + from) (f.first_piece + to)).total - length own) 0))
    (slice_range v.pieces (f.first_piece + from) (f.first_piece + to)) found

-- which finds the first bad version 1 piece
pub row_cuts : (t : Description) (v : Version1) (n : ℕ) (f : FileEntry) (from to : ℕ) (bytes own rest : List ℕ) (found : Option ℕ) → IsSound t
    → slice_get t.files n ≡ Some f → t.v1 ≡ Some v → IsRow t f from to own → AreCompared t v f from to own found
    → drop (t.piece_length * from) bytes ≡ own ++ rest → (to ≡ piece_count t f → length bytes ≡ f.length)
    → IsFirstBadNumber from to (IsVersion1Good t v f bytes) (option_map (λ j. from + j) found)
row_cuts t v n f from to bytes own rest found sound there hybrid row compared at end =
    let pl : ℕ = t.piece_length in
    let first : ℕ = f.first_piece + from in
    let past : ℕ = f.first_piece + to in
    let total : ℕ = (stream_part pl v first past).total in
    let fits = part_fits t v n f from to sound there hybrid row.piece row.inside in
    let stream : List ℕ = own ++ replicate (total - length own) 0 in
    let ys : List (List ℕ) = slice_range v.pieces first past in
    let lens = row_lengths t v n f from to own sound there hybrid row in
    let cuts : pieces_of pl (length stream) ≡ to - from = sym (length-cut_digests pl stream) ∙ lens.0 in
    let digest_at : (j : ℕ) → j < to - from → get_or (cut_digests pl stream) j [] ≡ sha1 (version1_piece t v f bytes (from + j)) =
    λ j lt. get_or_from_slice_get (cut_digests pl stream) j (sha1 (cut pl stream j)) [] (digest_of_cut pl stream j (omega (arith, lt, cuts)))
    ∙ ap sha1 (row_cut t v n f from to j bytes own rest sound there hybrid row (omega (arith, lt)) at end) in
    let listed_at : (j : ℕ) → j < to - from → slice_get v.pieces (f.first_piece + (from + j)) ≡ Some (get_or ys j []) =
    λ j lt.
    let same : f.first_piece + (from + j) ≡ first + j = omega arith in
    ap (slice_get v.pieces) same ∙ slice_get-get_or v.pieces (first + j) [] (omega (arith, lt, fits.0))
    ∙ ap Some (sym (in_range v.pieces first past j (omega (arith, lt)))) in
    first_of_rows (cut_digests pl stream) ys found from to (to - from) (IsVersion1Good t v f bytes) (omega (arith, row.piece)) lens.0 lens.1
    compared
    (λ j lt same. listed_at j lt ∙ ap Some (sym same ∙ digest_at j lt))
    (λ j lt good. digest_at j lt ∙ same_Some _ _ (sym good ∙ listed_at j lt))
