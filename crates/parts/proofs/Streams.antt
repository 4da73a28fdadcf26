-- The version 1 stream of a folder whose files are all as long as stated: each of its cuts is the
-- version 1 piece that begins with a piece of one file.
use Rattle.std.proofs.Common.{◌≡◌, inl, inr, ℕ, zero, suc, ◌+◌, ◌-◌, ◌*◌, ◌<◌, ◌≤◌, min, List, [], ◌∷◌, ◌++◌, length, take, drop, replicate, add-one}
use Rattle.std.proofs.Common.{get_or, slice_get, sum_by, Some, refl, ap, sym, ◌∙◌, subst, arith, take-take}
use Rattle.std.proofs.Math.Nat.{lt-div-mul-add, div-mul-le_self, mul-le-mul_left}
use Rattle.std.proofs.lemmas.Bool.{cases_lt}
use Rattle.std.proofs.lemmas.List.{ext_get_or, get_or-take, get_or-drop, get_or_append_left, get_or-append_right, get_or-replicate, length-append}
use Rattle.std.proofs.lemmas.List.{length-take, length-drop, length-replicate, take_all}
use Rattle.std.proofs.lemmas.List.Sums.{sum_by-take-le}
use Rattle.std.proofs.lemmas.Option.{same_Some}
use Rattle.chains.proofs.Cases.{item_at}
use Rattle.sha1.specs.Sha1.{sha1}
use Rattle.pieces.specs.Cuts.{cut, cut_digests}
use Rattle.opening.specs.Description.{Description, FileEntry, Version1}
use Rattle.pieces.specs.Pieces.{pieces_of}
use Rattle.opening.specs.Sound.{IsSound}
use Rattle.pieces.proofs.Cutting.{digest_of_cut}
use Rattle.folders.specs.Folder.{Contents, Covers, IsStream, stream_start_of}
use Rattle.folders.proofs.Places.{ends_before_next, pieces_are_positive, pieces_before, pieces_next, place_before, start_is}
use Rattle.folders.proofs.Prefixes.{IsStreamPrefix, prefix_all, prefix_empty, prefix_file, prefix_none, prefix_zeros}
use Rattle.parts.specs.Parts.{IsPieceAt, last_place, piece_count, place_count, version1_piece}

-- each file has a content, which is as long as stated
abbrev pub AreWhole : Description → Contents → Type 0
AreWhole t contents = (n : ℕ) (f : FileEntry) → slice_get t.files n ≡ Some f → (bytes : List ℕ) × (contents n ≡ Some bytes) × (length bytes ≡ f.length)

-- ---- the stream is there

record Front (t : Description) (contents : Contents) (total n : ℕ) : Type 0 where
  pub bytes : List ℕ
  pub prefix : IsStreamPrefix t contents n bytes
  pub not_past : length bytes ≤ place_before t n
  pub within : length bytes ≤ total

pub pieces_mono : (t : Description) (m n : ℕ) → m ≤ n → pieces_before t m ≤ pieces_before t n
pieces_mono t m n le =
    let f : FileEntry → ℕ = λ g. pieces_of t.piece_length g.length in
    subst (λ xs. sum_by f xs ≤ pieces_before t n) (take-take m n t.files le) (sum_by-take-le f (take n t.files) m)

place_mono : (t : Description) (m n : ℕ) → m ≤ n → place_before t m ≤ place_before t n
place_mono t m n le = mul_right (pieces_before t m) (pieces_before t n) t.piece_length (pieces_mono t m n le)
  where
    mul_right : (a b c : ℕ) → a ≤ b → a * c ≤ b * c
    mul_right a b c h = let m : c * a ≤ c * b = mul-le-mul_left c h in omega (arith, m)

front : (t : Description) (contents : Contents) (v : Version1) → IsSound t → t.v1 ≡ Some v → AreWhole t contents → (n : ℕ) → n ≤ length t.files
    → Front t contents v.total n
front t contents v sound hybrid whole zero le = record { bytes = []; prefix = prefix_none t contents; not_past = omega arith; within = omega arith }
front t contents v sound hybrid whole (suc n) le =
    let at = item_at t.files n (omega (arith, le)) in
    let f : FileEntry = at.0 in
    let so_far = front t contents v sound hybrid whole n (omega (arith, le)) in
    let found = whole n f at.1 in
    more n f found.0 at.1 found.1 found.2 so_far
  where
    start_after : (n : ℕ) (f : FileEntry) → slice_get t.files n ≡ Some f → Front t contents v.total n → ℕ → ℕ
    start_after n f is so_far k = k

    more : (n : ℕ) (f : FileEntry) (bytes : List ℕ) → slice_get t.files n ≡ Some f → contents n ≡ Some bytes → length bytes ≡ f.length
        → Front t contents v.total n → Front t contents v.total (suc n)
    more n f [] is content len so_far = record {
      bytes = so_far.bytes;
      prefix = subst (λ k. IsStreamPrefix t contents k so_far.bytes) (add-one n) (prefix_empty t contents n so_far.bytes f so_far.prefix is content);
      not_past = omega (arith, so_far.not_past, place_mono t n (suc n) (omega arith));
      within = so_far.within;
    }
    more n f (b ∷ bytes) is content len so_far =
        let gap : ℕ = stream_start_of t f - length so_far.bytes in
        let low : length so_far.bytes ≤ stream_start_of t f = omega (arith, so_far.not_past, start_is t n f sound is) in
        let filled : List ℕ = so_far.bytes ++ replicate gap 0 in
        let at : length filled ≡ stream_start_of t f = omega (arith, low, length-append so_far.bytes (replicate gap 0), length-replicate {A = ℕ} gap 0) in
        let all : length (filled ++ (b ∷ bytes)) ≡ stream_start_of t f + f.length = omega (arith, at, len, length-append filled (b ∷ bytes)) in
        record {
          bytes = filled ++ (b ∷ bytes);
          prefix = subst (λ k. IsStreamPrefix t contents k (filled ++ (b ∷ bytes))) (add-one n)
              (prefix_file t contents n filled f (b ∷ bytes) (prefix_zeros t contents n so_far.bytes gap so_far.prefix) is content at);
          not_past = subst (λ k. length (filled ++ (b ∷ bytes)) ≤ place_before t k) (add-one n)
              (omega (arith, all, ends_before_next t n f sound (pieces_are_positive t sound) is));
          within = omega (arith, all, sound.in_stream v n f hybrid is (omega (arith, len)));
        }

pub stream_there : (t : Description) (contents : Contents) (v : Version1) → IsSound t → t.v1 ≡ Some v → AreWhole t contents
    → (stream : List ℕ) × IsStream t contents v.total stream
stream_there t contents v sound hybrid whole =
    let all = front t contents v sound hybrid whole (length t.files) (omega arith) in
    (all.bytes ++ replicate (v.total - length all.bytes) 0, prefix_all t contents all.bytes v.total all.prefix all.within)

-- ---- each piece is one of a file

-- the file that has this piece of the torrent
pub record HasPiece (t : Description) (p : ℕ) : Type 0 where
  pub number : ℕ
  pub file : FileEntry
  pub piece : ℕ
  pub there : slice_get t.files number ≡ Some file
  pub inside : piece < piece_count t file
  pub piece_is : p ≡ file.first_piece + piece

piece_before : (t : Description) (p : ℕ) → IsSound t → (n : ℕ) → n ≤ length t.files → p < pieces_before t n → HasPiece t p
piece_before t p sound zero le lt = absurd (omega (arith, lt))
piece_before t p sound (suc n) le lt =
    let at = item_at t.files n (omega (arith, le)) in
    let next : pieces_before t (suc n) ≡ pieces_before t n + piece_count t at.0 = ap (pieces_before t) (sym (add-one n)) ∙ pieces_next t n at.0 at.1 in
    elim (cases_lt p (pieces_before t n)) [
      | inl before ↦ piece_before t p sound n (omega (arith, le)) before
      | inr after ↦ record {
        number = n;
        file = at.0;
        piece = p - pieces_before t n;
        there = at.1;
        inside = omega (arith, lt, next, after);
        piece_is = omega (arith, after, sound.laid_out.first_pieces n at.0 at.1);
      }
    ]

pub has_piece : (t : Description) (p : ℕ) → IsSound t → p < place_count t - 1 → HasPiece t p
has_piece t p sound lt =
    let all : take (length t.files) t.files ≡ t.files = take_all (length t.files) t.files (omega arith) in
    piece_before t p sound (length t.files) (omega arith)
    (subst (λ xs. p < sum_by (λ g. pieces_of t.piece_length g.length) xs) (sym all) (omega (arith, lt)))

-- a place of a file is one of the torrent
pub place_of_piece : (t : Description) (n : ℕ) (f : FileEntry) (x : ℕ) → IsSound t → slice_get t.files n ≡ Some f → x ≤ last_place t f → x < place_count t
place_of_piece t n f x sound is le =
    let f_pieces : FileEntry → ℕ = λ g. pieces_of t.piece_length g.length in
    omega (arith, le, pieces_next t n f is, sound.laid_out.first_pieces n f is, sum_by-take-le f_pieces t.files (n + 1))

-- ---- what stands in a piece of the stream

-- rounding up
pub in_pieces : (pl k len : ℕ) → 0 < pl → k < pieces_of pl len → pl * k < len
in_pieces pl k len some lt =
    let low : pieces_of pl len * pl ≤ len + (pl - 1) = div-mul-le_self (len + (pl - 1)) pl in
    let more : pl * (k + 1) ≤ pl * pieces_of pl len = mul-le-mul_left pl (let le : k + 1 ≤ pieces_of pl len = omega (arith, lt) in le) in
    omega (arith, low, more, some)

pub to_pieces : (pl k len : ℕ) → 0 < pl → pl * k < len → k < pieces_of pl len
to_pieces pl k len some lt =
    let high : len + (pl - 1) < pieces_of pl len * pl + pl = lt-div-mul-add {a = len + (pl - 1)} {b = pl} some in
    elim (cases_lt k (pieces_of pl len)) [
      | inl less ↦ less
      | inr ge ↦
          let more : pl * pieces_of pl len ≤ pl * k = mul-le-mul_left pl ge in
          absurd (omega (arith, high, more, lt, some))
    ]

-- a byte that stands in piece k of file n, and not in the file, is in no file
bare : (t : Description) (contents : Contents) (n k : ℕ) (f : FileEntry) (x : ℕ) → IsSound t → AreWhole t contents → slice_get t.files n ≡ Some f
    → k < piece_count t f
    → stream_start_of t f + f.length ≤ x → x < t.piece_length * (f.first_piece + k) + t.piece_length → Covers t contents x → ⊥
bare t contents n k f x sound whole is inside past before c =
    let found = whole c.number c.file c.there in
    let len : length c.bytes ≡ c.file.length = ap length (same_Some c.bytes found.0 (sym c.content ∙ found.1)) ∙ found.2 in
    elim (cases_lt c.number n) [
      | inl less ↦
          let ends : stream_start_of t c.file + c.file.length ≤ place_before t (c.number + 1) =
          ends_before_next t c.number c.file sound (pieces_are_positive t sound) c.there in
          let order : place_before t (c.number + 1) ≤ place_before t n = place_mono t (c.number + 1) n (omega (arith, less)) in
          omega (arith, ends, order, start_is t n f sound is, c.to, len, past)
      | inr ge ↦ elim (cases_lt n c.number) [
        | inl more ↦
            let order : place_before t (n + 1) ≤ place_before t c.number = place_mono t (n + 1) c.number (omega (arith, more)) in
            let next : place_before t (n + 1) ≡ (f.first_piece + piece_count t f) * t.piece_length =
            ap (λ j. j * t.piece_length) (pieces_next t n f is ∙ ap (λ j. j + piece_count t f) (sym (sound.laid_out.first_pieces n f is))) in
            let all : t.piece_length * (f.first_piece + k + 1) ≤ t.piece_length * (f.first_piece + piece_count t f) =
            mul-le-mul_left t.piece_length (let le : f.first_piece + k + 1 ≤ f.first_piece + piece_count t f = omega (arith, inside) in le) in
            omega (arith, order, next, all, start_is t c.number c.file sound c.there, c.from, before)
        | inr le ↦
            let at : c.number ≡ n = omega (arith, ge, le) in
            let same : c.file ≡ f = same_Some c.file f (sym c.there ∙ ap (slice_get t.files) at ∙ is) in
            omega (arith, c.to, len, ap (stream_start_of t) same, ap (λ (g : FileEntry). g.length) same, past)
      ]
    ]

-- the cut of the stream at a piece of a file is the version 1 piece there
pub cut_is : (t : Description) (contents : Contents) (v : Version1) (stream : List ℕ) (p n k : ℕ) (f : FileEntry) (bytes : List ℕ) → IsSound t → t.v1 ≡ Some v
    → AreWhole t contents
    → IsStream t contents v.total stream → IsPieceAt t contents p n k f bytes → cut t.piece_length stream p ≡ version1_piece t v f bytes k
cut_is t contents v stream p n k f bytes sound hybrid whole is at =
    let pl : ℕ = t.piece_length in
    let some : 0 < pl = pieces_are_positive t sound in
    let found = whole n f at.there in
    let len : length bytes ≡ f.length = ap length (same_Some bytes found.0 (sym at.content ∙ found.1)) ∙ found.2 in
    let begins : pl * k < f.length = in_pieces pl k f.length some at.inside in
    let fits : stream_start_of t f + f.length ≤ v.total = sound.in_stream v n f hybrid at.there (omega (arith, begins)) in
    let own : List ℕ = take pl (drop (pl * k) bytes) in
    let size : ℕ = min pl (v.total - pl * (f.first_piece + k)) in
    let at_p : pl * p ≡ pl * (f.first_piece + k) = ap (λ j. pl * j) at.piece_is in
    let begin : pl * (f.first_piece + k) ≡ stream_start_of t f + pl * k = omega arith in
    let own_len : length own ≡ min pl (f.length - pl * k) = omega (arith, length-take pl (drop (pl * k) bytes), length-drop (pl * k) bytes, len) in
    let own_fits : length own ≤ size = omega (arith, own_len, begin, fits, begins) in
    let cut_len : length (cut pl stream p) ≡ size = omega (arith, length-take pl (drop (pl * p) stream), length-drop (pl * p) stream, is.length_is, at_p) in
    let piece_len : length (own ++ replicate (size - length own) 0) ≡ size =
    omega (arith, own_fits, length-append own (replicate (size - length own) 0), length-replicate {A = ℕ} (size - length own) 0) in
    ext_get_or 0 (cut pl stream p) (version1_piece t v f bytes k) (cut_len ∙ sym piece_len) (λ i lt.
    let low : i < pl = omega (arith, lt, cut_len) in
    let here : get_or (cut pl stream p) i 0 ≡ get_or stream (pl * p + i) 0 = get_or-take pl (drop (pl * p) stream) i 0 low ∙ get_or-drop (pl * p) stream i 0 in
    elim (cases_lt i (length own)) [
      | inl inside ↦
          let place : stream_start_of t f + (pl * k + i) ≡ pl * p + i = omega (arith, at_p, begin) in
          let in_file : pl * k + i < length bytes = omega (arith, inside, own_len, len) in
          here
          ∙ ap (λ j. get_or stream j 0) (sym place)
          ∙ sym (get_or-drop (stream_start_of t f) stream (pl * k + i) 0)
          ∙ sym (get_or-take (length bytes) (drop (stream_start_of t f) stream) (pl * k + i) 0 in_file)
          ∙ ap (λ b. get_or b (pl * k + i) 0) (is.file_at n f bytes at.there at.content (omega (arith, in_file)))
          ∙ sym (get_or-drop (pl * k) bytes i 0)
          ∙ sym (get_or-take pl (drop (pl * k) bytes) i 0 low)
          ∙ sym (get_or_append_left own (replicate (size - length own) 0) 0 i inside)
      | inr past ↦
          let after : stream_start_of t f + f.length ≤ pl * p + i = omega (arith, past, own_len, at_p, begin, low) in
          let before : pl * p + i < pl * (f.first_piece + k) + pl = omega (arith, at_p, low) in
          here
          ∙ is.zeros (pl * p + i) (omega (arith, lt, cut_len, at_p)) (bare t contents n k f (pl * p + i) sound whole at.there at.inside after before)
          ∙ sym (get_or-append_right own (replicate (size - length own) 0) (length own) i 0 refl past
          ∙ get_or-replicate (size - length own) (i - length own) 0 0 (omega (arith, lt, cut_len, past, own_fits)))
    ])

-- its digest, among those of the stream's cuts
pub digest_is : (t : Description) (contents : Contents) (v : Version1) (stream : List ℕ) (p n k : ℕ) (f : FileEntry) (bytes : List ℕ) → IsSound t
    → t.v1 ≡ Some v → AreWhole t contents
    → IsStream t contents v.total stream → IsPieceAt t contents p n k f bytes
    → slice_get (cut_digests t.piece_length stream) p ≡ Some (sha1 (version1_piece t v f bytes k))
digest_is t contents v stream p n k f bytes sound hybrid whole is at =
    let pl : ℕ = t.piece_length in
    let some : 0 < pl = pieces_are_positive t sound in
    let begins : pl * k < f.length = in_pieces pl k f.length some at.inside in
    let fits : stream_start_of t f + f.length ≤ v.total = sound.in_stream v n f hybrid at.there (omega (arith, begins)) in
    let begin : pl * (f.first_piece + k) ≡ stream_start_of t f + pl * k = omega arith in
    let at_p : pl * p ≡ pl * (f.first_piece + k) = ap (λ j. pl * j) at.piece_is in
    digest_of_cut pl stream p (to_pieces pl p (length stream) some (omega (arith, is.length_is, at_p, begin, fits, begins)))
    ∙ ap (λ b. Some (sha1 b)) (cut_is t contents v stream p n k f bytes sound hybrid whole is at)
