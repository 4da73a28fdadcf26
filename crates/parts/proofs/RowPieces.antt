-- The pieces of a row are those of the file.
use Rattle.std.proofs.Common.{◌≡◌, ◌⊎◌, inl, inr, ℕ, ◌+◌, ◌-◌, ◌*◌, ◌^◌, ◌<◌, ◌≤◌, min, List, [], ◌++◌, length, take, drop, replicate}
use Rattle.std.proofs.Common.{get_or, slice_get, Option, Some, None, IfSome, refl, ap, sym, ◌∙◌, subst, append-nil, arith}
use Rattle.std.specs.Prelude.{slice_range}
use Rattle.std.specs.Option.{option_map}
use Rattle.std.proofs.Math.Nat.{mul-le-mul, mul-le-mul_left}
use Rattle.std.proofs.lemmas.Bool.{cases_lt}
use Rattle.std.proofs.lemmas.List.{ext_get_or, get_or-take, get_or-drop, get_or_append_left, get_or-append_right, get_or-replicate, length-append}
use Rattle.std.proofs.lemmas.List.{length-take, length-drop, length-replicate, drop-drop, drop-append-le, take-append-le, nil_from_length}
use Rattle.hashtree.specs.Difference.{IsComparison}
use Rattle.hashtree.proofs.Comparing.{difference_within}
use Rattle.opening.specs.Description.{Description, FileEntry, TreeEntry}
use Rattle.opening.specs.Sound.{IsSound}
use Rattle.pieces.specs.Cuts.{cut}
use Rattle.pieces.specs.Pieces.{pieces_of}
use Rattle.pieces.proofs.Cutting.{pieces_cover}
use Rattle.folders.specs.Folder.{tree_entry_of}
use Rattle.parts.specs.FilePieces.{IsFirstBadNumber}
use Rattle.parts.specs.Parts.{piece_count}
use Rattle.parts.specs.RowChecks.{row_bytes}
use Rattle.parts.proofs.GoodPieces.{in_layer, piece_fits}
use Rattle.parts.proofs.Streams.{in_pieces, to_pieces}

-- ---- two rows, compared

-- if what stands at a place of both is the same exactly if the piece is good, the first place at
-- which they differ is that of the first bad piece
pub first_of_rows : (xs ys : List (List ℕ)) (found : Option ℕ) (from to n : ℕ) (IsGood : ℕ → Type 0) → from + n ≡ to → length xs ≡ n → length ys ≡ n
    → IsComparison xs ys found
    → ((j : ℕ) → j < n → get_or xs j [] ≡ get_or ys j [] → IsGood (from + j))
    → ((j : ℕ) → j < n → IsGood (from + j) → get_or xs j [] ≡ get_or ys j [])
    → IsFirstBadNumber from to IsGood (option_map (λ j. from + j) found)
first_of_rows xs ys None from to n IsGood at xs_len ys_len same onto back = λ k low lt.
    let place : from + (k - from) ≡ k = omega (arith, low) in
    subst IsGood place (onto (k - from) (omega (arith, low, lt, at)) (ap (λ l. get_or l (k - from) []) same))
first_of_rows xs ys (Some p) from to n IsGood at xs_len ys_len first onto back =
    let other = difference_within xs ys p (xs_len ∙ sym ys_len) first in (
      omega arith,
      omega (arith, other.0, xs_len, at),
      λ good. other.1 (back p (omega (arith, other.0, xs_len)) good),
      λ k low lt.
          let place : from + (k - from) ≡ k = omega (arith, low) in
          subst IsGood place (onto (k - from) (omega (arith, low, lt, other.0, xs_len)) (other.2 (k - from) (omega (arith, low, lt)))),
    )

-- a place at which two rows of one length differ is one of theirs
pub within_rows : (xs ys : List (List ℕ)) (found : Option ℕ) (n : ℕ) → length xs ≡ n → length ys ≡ n → IsComparison xs ys found → IfSome found (λ p. p < n)
within_rows xs ys None n xs_len ys_len is = tt
within_rows xs ys (Some p) n xs_len ys_len is = omega (arith, (difference_within xs ys p (xs_len ∙ sym ys_len) is).0, xs_len)

-- what stands at a place of a part of a list
pub in_range : (xs : List (List ℕ)) (from to j : ℕ) → from + j < to → get_or (slice_range xs from to) j [] ≡ get_or xs (from + j) []
in_range xs from to j lt = get_or-take (to - from) (drop from xs) j [] (omega (arith, lt)) ∙ get_or-drop from xs j []

pub range_length : (xs : List (List ℕ)) (from to : ℕ) → to ≤ length xs → length (slice_range xs from to) ≡ to - from
range_length xs from to le = omega (arith, le, length-take (to - from) (drop from xs), length-drop from xs)

-- the last piece of the row begins within the file
pub last_begins : (t : Description) (f : FileEntry) (from to : ℕ) → 0 < t.piece_length → from < to → to ≤ piece_count t f
    → t.piece_length * (to - 1) < f.length
last_begins t f from to some piece inside = in_pieces t.piece_length (to - 1) f.length some (omega (arith, piece, inside))

-- the file's part of its piece layer is there
pub row_listed : (t : Description) (n : ℕ) (f : FileEntry) (e : TreeEntry) (from to : ℕ) → IsSound t → slice_get t.files n ≡ Some f
    → tree_entry_of t f ≡ Some e → t.piece_length < f.length → from < to → to ≤ piece_count t f → to ≤ length e.layer
row_listed t n f e from to sound there is long piece inside =
    omega (arith, in_layer t n f e (to - 1) sound there is long (omega (arith, piece, inside)), piece)

-- ---- bytes

-- the bytes of a piece
abbrev pub piece_of : ℕ → List ℕ → ℕ → List ℕ
piece_of pl bytes k = take pl (drop (pl * k) bytes)

-- a piece of the row is a piece of the file
same_piece : (pl from j : ℕ) (bytes own rest : List ℕ) → drop (pl * from) bytes ≡ own ++ rest → pl * j ≤ length own
    → (pl * j + pl ≤ length own) ⊎ (rest ≡ [])
    → piece_of pl own j ≡ piece_of pl bytes (from + j)
same_piece pl from j bytes own rest at le ends =
    let place : pl * from + pl * j ≡ pl * (from + j) = omega arith in
    let there : drop (pl * (from + j)) bytes ≡ drop (pl * j) own ++ rest =
    ap (λ n. drop n bytes) (sym place) ∙ sym (drop-drop (pl * j) (pl * from) bytes) ∙ ap (drop (pl * j)) at ∙ drop-append-le (pl * j) own rest le in
    elim ends [
      | inl inside ↦
          sym (ap (take pl) there ∙ take-append-le pl (drop (pl * j) own) rest (omega (arith, inside, length-drop (pl * j) own)))
      | inr none ↦
          sym (ap (take pl) (there ∙ ap (λ l. drop (pl * j) own ++ l) none ∙ append-nil (drop (pl * j) own)))
    ]

-- a cut of bytes that are filled up with zeros
pub filled_cut : (pl total j : ℕ) (own : List ℕ) → length own ≤ total → pl * j ≤ length own
    → cut pl (own ++ replicate (total - length own) 0) j
    ≡ piece_of pl own j ++ replicate (min pl (total - pl * j) - length (piece_of pl own j)) 0
filled_cut pl total j own fits le =
    let zeros : List ℕ = replicate (total - length own) 0 in
    let piece : List ℕ = piece_of pl own j in
    let size : ℕ = min pl (total - pl * j) in
    let all_len : length (own ++ zeros) ≡ total = omega (arith, fits, length-append own zeros, length-replicate {A = ℕ} (total - length own) 0) in
    let piece_len : length piece ≡ min pl (length own - pl * j) = omega (arith, length-take pl (drop (pl * j) own), length-drop (pl * j) own) in
    let cut_len : length (cut pl (own ++ zeros) j) ≡ size =
    omega (arith, length-take pl (drop (pl * j) (own ++ zeros)), length-drop (pl * j) (own ++ zeros), all_len) in
    let right_len : length (piece ++ replicate (size - length piece) 0) ≡ size =
    omega (arith, piece_len, fits, le, length-append piece (replicate (size - length piece) 0), length-replicate {A = ℕ} (size - length piece) 0) in
    ext_get_or 0 (cut pl (own ++ zeros) j) (piece ++ replicate (size - length piece) 0) (cut_len ∙ sym right_len) (λ i lt.
    let low : i < pl = omega (arith, lt, cut_len) in
    let here : get_or (cut pl (own ++ zeros) j) i 0 ≡ get_or (own ++ zeros) (pl * j + i) 0 =
    get_or-take pl (drop (pl * j) (own ++ zeros)) i 0 low ∙ get_or-drop (pl * j) (own ++ zeros) i 0 in
    elim (cases_lt i (length piece)) [
      | inl inside ↦
          here
          ∙ get_or_append_left own zeros 0 (pl * j + i) (omega (arith, inside, piece_len))
          ∙ sym (get_or-take pl (drop (pl * j) own) i 0 low ∙ get_or-drop (pl * j) own i 0)
          ∙ sym (get_or_append_left piece (replicate (size - length piece) 0) 0 i inside)
      | inr past ↦
          let after : length own ≤ pl * j + i = omega (arith, past, piece_len, low) in
          here
          ∙ get_or-append_right own zeros (length own) (pl * j + i) 0 refl after
          ∙ get_or-replicate (total - length own) (pl * j + i - length own) 0 0 (omega (arith, lt, cut_len, after))
          ∙ sym (get_or-append_right piece (replicate (size - length piece) 0) (length piece) i 0 refl past
          ∙ get_or-replicate (size - length piece) (i - length piece) 0 0 (omega (arith, lt, cut_len, past)))
    ])

-- ---- a row of pieces

-- some pieces of a file in a row, and what their bytes are
pub record IsRow (t : Description) (f : FileEntry) (from to : ℕ) (own : List ℕ) : Type 0 where
  pub piece : from < to
  pub inside : to ≤ piece_count t f
  pub count : length own ≡ row_bytes t f from to

-- this many pieces are these bytes
pub pieces_between : (pl n total : ℕ) → 0 < pl → 0 < n → pl * (n - 1) < total → total ≤ pl * (n - 1) + pl → pieces_of pl total ≡ n
pieces_between pl n total some positive low high =
    let least = to_pieces pl (n - 1) total some low in
    elim (cases_lt n (pieces_of pl total)) [
      | inl more ↦
          let past : pl * n < total = in_pieces pl n total some more in
          let same : pl * n ≡ pl * (n - 1) + pl = ap (λ k. pl * k) (let a : n ≡ n - 1 + 1 = omega (arith, positive) in a) ∙ omega arith in
          absurd (omega (arith, past, same, high))
      | inr le ↦ omega (arith, le, least, positive)
    ]

-- the bytes of the row: some, at most as many as the file has, and as many pieces of them
pub row_fits : (t : Description) (f : FileEntry) (from to : ℕ) → 0 < t.piece_length → from < to → to ≤ piece_count t f
    → (0 < row_bytes t f from to) × (row_bytes t f from to ≤ f.length) × (pieces_of t.piece_length (row_bytes t f from to) ≡ to - from)
    × (t.piece_length * from ≤ min (t.piece_length * to) f.length)
row_fits t f from to some piece inside =
    let pl : ℕ = t.piece_length in
    let last : pl * (to - 1) < f.length = last_begins t f from to some piece inside in
    let end : pl * to ≡ pl * (to - 1) + pl = ap (λ k. pl * k) (let a : to ≡ to - 1 + 1 = omega (arith, piece) in a) ∙ omega arith in
    let rows : pl * (to - from - 1) + pl * from ≡ pl * (to - 1) = (let a : pl * (to - from - 1) + pl * from ≡ pl * (to - from - 1 + from) = omega arith in a)
    ∙ ap (λ k. pl * k) (let a : to - from - 1 + from ≡ to - 1 = omega (arith, piece) in a) in
    let low : pl * from ≤ pl * (to - 1) = mul-le-mul_left pl (let a : from ≤ to - 1 = omega (arith, piece) in a) in (
      omega (arith, last, end, low, some),
      omega arith,
      pieces_between pl (to - from) (row_bytes t f from to) some (omega (arith, piece)) (omega (arith, last, end, rows)) (omega (arith, end, rows)),
      omega (arith, last, end, rows),
    )

-- the torrent's last place of the row, in bytes
pub row_places : (t : Description) (n : ℕ) (f : FileEntry) (from to : ℕ) → IsSound t → slice_get t.files n ≡ Some f → from < to → to ≤ piece_count t f
    → (f.first_piece + to ≤ 2 ^ 32) × (t.piece_length * (f.first_piece + to) ≤ 2 ^ 62) × (t.piece_length * to ≤ 2 ^ 62)
row_places t n f from to sound there piece inside =
    let fits = piece_fits t n f (to - 1) sound there (omega (arith, piece, inside)) in
    let few : f.first_piece + to ≤ 2 ^ 32 = omega (arith, fits.0, piece) in
    let most : t.piece_length * (f.first_piece + to) ≤ 2 ^ 30 * 2 ^ 32 = mul-le-mul fits.3 few in
    let own : t.piece_length * to ≤ t.piece_length * (f.first_piece + to) =
    mul-le-mul_left t.piece_length (let a : to ≤ f.first_piece + to = omega arith in a) in
    (few, omega (arith, most), omega (arith, most, own))

-- where piece j of the row stands among its bytes
pub record IsWithin (pl len j n : ℕ) : Type 0 where
  pub begins : pl * j < len
  pub ends : (j + 1 ≡ n) ⊎ (pl * j + pl ≤ len)

pub within_row : (t : Description) (f : FileEntry) (from to j : ℕ) (own : List ℕ) → 0 < t.piece_length → IsRow t f from to own → from + j < to
    → IsWithin t.piece_length (length own) j (to - from)
within_row t f from to j own some row lt =
    let pl : ℕ = t.piece_length in
    let last : pl * (to - 1) < f.length = last_begins t f from to some row.piece row.inside in
    let le : pl * (from + j) ≤ pl * (to - 1) = mul-le-mul_left pl (let a : from + j ≤ to - 1 = omega (arith, lt) in a) in
    let at : pl * (from + j) ≡ pl * from + pl * j = omega arith in
    let end : pl * (from + j + 1) ≤ pl * to = mul-le-mul_left pl (let a : from + j + 1 ≤ to = omega (arith, lt) in a) in
    let next : pl * (from + j + 1) ≡ pl * from + pl * j + pl = omega arith in
    record {
      begins = omega (arith, row.count, last, le, at, end, next, some);
      ends = elim (cases_lt (j + 1) (to - from)) [
        | inl more ↦
            let before : pl * (from + j + 1) ≤ pl * (to - 1) = mul-le-mul_left pl (let a : from + j + 1 ≤ to - 1 = omega (arith, more) in a) in
            inr (omega (arith, row.count, before, next, last, end))
        | inr past ↦ inl (omega (arith, past, lt))
      ];
    }

-- a piece of the row is a piece of each content that has these bytes there
pub row_piece : (t : Description) (f : FileEntry) (from to j : ℕ) (bytes own rest : List ℕ) → 0 < t.piece_length → IsRow t f from to own → from + j < to
    → drop (t.piece_length * from) bytes ≡ own ++ rest → (to ≡ piece_count t f → length bytes ≡ f.length)
    → piece_of t.piece_length own j ≡ piece_of t.piece_length bytes (from + j)
row_piece t f from to j bytes own rest some row lt at end =
    let pl : ℕ = t.piece_length in
    let within = within_row t f from to j own some row lt in
    let last : pl * (to - 1) < f.length = last_begins t f from to some row.piece row.inside in
    same_piece pl from j bytes own rest at (omega (arith, within.begins)) (elim within.ends [
      | inr inside ↦ inl inside
      | inl final ↦ elim (cases_lt to (piece_count t f)) [
        | inl more ↦
            let next : pl * to < f.length = in_pieces pl to f.length some more in
            let whole : pl * (from + j + 1) ≡ pl * to = ap (λ n. pl * n) (let e : from + j + 1 ≡ to = omega (arith, final, lt) in e) in
            let split : pl * (from + j + 1) ≡ pl * from + pl * j + pl = omega arith in
            inl (omega (arith, row.count, next, whole, split))
        | inr all ↦
            let len : length bytes ≡ f.length = end (omega (arith, all, row.inside)) in
            let most : f.length ≤ piece_count t f * pl = pieces_cover pl f.length some in
            let same : piece_count t f * pl ≡ pl * to = ap (λ n. n * pl) (let e : piece_count t f ≡ to = omega (arith, all, row.inside) in e) ∙ omega arith in
            let low : pl * from ≤ pl * (to - 1) = mul-le-mul_left pl (let a : from ≤ to - 1 = omega (arith, row.piece) in a) in
            let lens : length bytes - pl * from ≡ length own + length rest = sym (length-drop (pl * from) bytes) ∙ ap length at ∙ length-append own rest in
            inr (nil_from_length rest (omega (arith, lens, len, row.count, most, same, last, low)))
      ]
    ])
