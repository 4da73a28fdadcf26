-- The content of one file that is put together of what all parts read of it.
use Rattle.std.proofs.Common.{◌≡◌, inl, inr, ℕ, zero, suc, ◌+◌, ◌-◌, ◌*◌, ◌^◌, ◌<◌, ◌≤◌, min, Bool, true, false, ◌&&◌, ◌||◌, ◌==◌}
use Rattle.std.proofs.Common.{List, [], ◌++◌, length, take, drop, Some, refl, sym, ap, ◌∙◌, subst, append_assoc, if◌then◌else◌, arith}
use Rattle.std.specs.Prelude.{nat_le, nat_lt}
use Rattle.std.proofs.Math.Seq.{drop-append_seam, take-append_seam}
use Rattle.std.proofs.lemmas.Bool.{and_parts, cases_lt, ne_eqb}
use Rattle.std.proofs.lemmas.Bool.Decides.{nat_tests}
use Rattle.std.proofs.lemmas.List.{append-nil, length-append, nil_from_length}
use Rattle.std.proofs.lemmas.Option.{same_Some}
use Rattle.gathering.specs.Parts.{IsRow, KnownPaths}
use Rattle.part_texts.specs.Divisions.{bytes_of, first_piece, has_end, hashed, offset_of, span_of, start_of}
use Rattle.part_texts.specs.Listings.{Listed}
use Rattle.pieces.proofs.Cutting.{pieces_cover}
use Rattle.pieces.specs.Pieces.{pieces_of}
use Rattle.assembling.specs.Apart.{IsSpliced}
use Rattle.assembling.proofs.Saying.{hashed_is}
use Rattle.assembling.proofs.Shares.{at_end, at_most, at_start, at_up, piece_begins}

-- the first rows, one behind the other
abbrev pub joined_to : ℕ → (ℕ → List ℕ) → List ℕ
joined_to zero rows = []
joined_to (suc n) rows = joined_to n rows ++ rows n

-- a row stands behind those before it
joined_split : (rows : ℕ → List ℕ) (k d : ℕ) → (more : List ℕ) × (joined_to (suc k + d) rows ≡ joined_to k rows ++ (rows k ++ more))
joined_split rows k zero =
    let same : suc k + 0 ≡ suc k = omega arith in
    ([], ap (λ n. joined_to n rows) same ∙ ap (λ xs. joined_to k rows ++ xs) (sym (append-nil (rows k))))
joined_split rows k (suc d) =
    let before = joined_split rows k d in
    let n : ℕ = suc k + d in
    let step : suc k + suc d ≡ suc n = omega arith in (
      before.0 ++ rows n,
      ap (λ m. joined_to m rows) step
          ∙ ap (λ xs. xs ++ rows n) before.1
          ∙ append_assoc (joined_to k rows) (rows k ++ before.0) (rows n)
          ∙ ap (λ xs. joined_to k rows ++ xs) (append_assoc (rows k) before.0 (rows n)),
    )

times_up : (a b p : ℕ) → a ≤ b → a * p ≤ b * p
times_up a b p le = grind (arith, le)

hashed_within : (n : ℕ) → hashed n ≤ 2 ^ 46
hashed_within n = elim (cases_lt (2 ^ 46) n) [
  | inl long ↦
      let off : nat_le n (2 ^ 46) ≡ false = grind (arith, nat_tests, long) in
      let none : hashed n ≡ 0 = ap (λ b. (if b then n else 0)) off in omega (arith, none)
  | inr short ↦ omega (arith, hashed_is n short, short)
]

module _ (own : ℕ → KnownPaths) (p total parts before : ℕ) (f : Listed) (rows : ℕ → List ℕ) (legal : 0 < p) (any : 0 < parts)
    (are : (n : ℕ) → n < parts → IsRow (own n) p f (span_of p total parts before f.bytes n) (rows n))
  where
    abbrev from : ℕ → ℕ
    from n = first_piece p total parts before f.bytes n

    abbrev h : ℕ
    h = hashed f.bytes

    abbrev pub spliced : List ℕ
    spliced = joined_to parts rows

    row_size : (n : ℕ) → n < parts → length (rows n) ≡ min (from (n + 1) * p) h - from n * p
    row_size n lt = (are n lt).size

    -- the row of a part begins within the file, unless it is empty
    begins : (n : ℕ) → n < parts → 0 < length (rows n) → from n * p < h
    begins n lt some = omega (arith, row_size n lt, some)

    length_to : (n : ℕ) → n ≤ parts → length (joined_to n rows) ≡ min (from n * p) h
    length_to zero le = let start : from 0 * p ≡ 0 = ap (λ k. k * p) (at_start p total parts before f.bytes legal any) ∙ omega arith in omega (arith, start)
    length_to (suc n) le =
        let so_far = length_to n (omega (arith, le)) in
        let next : suc n ≡ n + 1 = omega arith in
        let up = at_up p total parts before f.bytes legal n (omega (arith, le)) in
        let further : from n * p ≤ from (n + 1) * p = times_up (from n) (from (n + 1)) p up in
        let size = row_size n (omega (arith, le)) in
        length-append (joined_to n rows) (rows n) ∙ omega (arith, so_far, size, further) ∙ ap (λ k. min (from k * p) h) (sym next)

    pub spliced_size : length spliced ≡ h
    spliced_size =
        let end : from parts * p ≡ pieces_of p h * p = ap (λ k. k * p) (at_end p total parts before f.bytes legal) in
        omega (arith, length_to parts (omega arith), end, pieces_cover p h legal)

    -- where the row of a part stands
    pub row_there : (n : ℕ) → n < parts → rows n ≡ take (length (rows n)) (drop (offset_of p (span_of p total parts before f.bytes n)) spliced)
    row_there n lt = elim (cases_lt 0 (length (rows n))) [
      | inl some ↦
          let start = begins n lt some in
          let split = joined_split rows n (parts - suc n) in
          let all : parts ≡ suc n + (parts - suc n) = omega (arith, lt) in
          let is : spliced ≡ joined_to n rows ++ (rows n ++ split.0) = ap (λ k. joined_to k rows) all ∙ split.1 in
          let first : length (joined_to n rows) ≡ from n * p = omega (arith, length_to n (omega (arith, lt)), start) in
          let offset : offset_of p (span_of p total parts before f.bytes n) ≡ length (joined_to n rows) = omega (arith, first, start, hashed_within f.bytes) in
          let behind : drop (offset_of p (span_of p total parts before f.bytes n)) spliced ≡ rows n ++ split.0 =
          ap (λ k. drop k spliced) offset ∙ ap (drop (length (joined_to n rows))) is ∙ drop-append_seam (joined_to n rows) (rows n ++ split.0) in
          sym (ap (take (length (rows n))) behind ∙ take-append_seam (rows n) split.0)
      | inr none ↦
          let bare : length (rows n) ≡ 0 = omega (arith, none) in
          nil_from_length (rows n) bare ∙ sym (ap (λ k. take k (drop (offset_of p (span_of p total parts before f.bytes n)) spliced)) bare)
    ]

    -- a file ends where the part that has its end does
    abbrev empty_end : ℕ → Bool
    empty_end n = nat_le (start_of total parts n) before && ((n + 1 == parts) || nat_lt before (start_of total parts (n + 1)))

    abbrev last_end : ℕ → Bool
    last_end n = nat_lt (from n) (from (n + 1)) && (from (n + 1) == pieces_of p h)

    some_end : (n : ℕ) → 0 < f.bytes → has_end p total parts before f.bytes n ≡ true → (from n < from (n + 1)) × (from (n + 1) ≡ pieces_of p h)
    some_end n some ends =
        let own_end : last_end n ≡ true =
        sym (ap (λ b. (if b then empty_end n else last_end n)) (ne_eqb f.bytes 0 (λ none. omega (arith, none, some)))) ∙ ends in
        let two = and_parts (nat_lt (from n) (from (n + 1))) (from (n + 1) == pieces_of p h) own_end in
        (less (from n) (from (n + 1)) two.0, equal (from (n + 1)) (pieces_of p h) two.1)
      where
        less : (a b : ℕ) → nat_lt a b ≡ true → a < b
        less a b is = grind (arith, nat_tests, is)

        equal : (a b : ℕ) → (a == b) ≡ true → a ≡ b
        equal a b is = grind (arith, nat_tests, is)

    ends_there : (n : ℕ) → n < parts → has_end p total parts before f.bytes n ≡ true
        → length spliced - offset_of p (span_of p total parts before f.bytes n) ≡ length (rows n)
    ends_there n lt ends = elim (cases_lt 0 f.bytes) [
      | inl some ↦
          let e = some_end n some ends in
          let start : from n * p < h = piece_begins p h (from n) legal (omega (arith, e.0, e.1)) in
          let cover : h ≤ from (n + 1) * p = subst (λ k. h ≤ k * p) (sym e.1) (pieces_cover p h legal) in
          omega (arith, row_size n lt, start, cover, spliced_size, hashed_within f.bytes)
      | inr none ↦
          let is : f.bytes ≡ 0 = omega (arith, none) in
          let bare : h ≡ 0 = ap hashed is in omega (arith, row_size n lt, spliced_size, bare)
    ]

    -- of whatever holds it, each part read it so
    pub is_row : (under : KnownPaths) → under f.path ≡ Some (Some spliced) → (n : ℕ) → n < parts
        → IsRow under p f (span_of p total parts before f.bytes n) (rows n)
    is_row under known n lt = record {
      size = row_size n lt;
      agrees = λ content at.
          let same = same_Some spliced content (same_Some (Some spliced) (Some content) (sym known ∙ at)) in
          subst (λ (c : List ℕ). rows n ≡ take (length (rows n)) (drop (offset_of p (span_of p total parts before f.bytes n)) c)) same (row_there n lt);
      ended = λ ends content at.
          let same = same_Some spliced content (same_Some (Some spliced) (Some content) (sym known ∙ at)) in
          subst (λ (c : List ℕ). length c - offset_of p (span_of p total parts before f.bytes n) ≡ length (rows n)) same (ends_there n lt ends);
    }

    pub is_spliced : IsSpliced own p total parts before f spliced
    is_spliced = record {
      size = λ short. spliced_size ∙ hashed_is f.bytes short;
      pieces = λ n there lt known.
          let row = are n lt in
          let offset : ℕ = offset_of p (span_of p total parts before f.bytes n) in
          ap (λ k. take k (drop offset spliced)) (sym row.size) ∙ sym (row_there n lt) ∙ row.agrees there known
          ∙ ap (λ k. take k (drop offset there)) row.size;
    }
