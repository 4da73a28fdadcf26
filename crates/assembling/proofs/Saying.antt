-- What a part says of the first of some files, and of those behind it.
use Rattle.std.proofs.Common.{◌≡◌, ◌⊎◌, inl, inr, ℕ, zero, suc, ◌+◌, ◌-◌, ◌*◌, ◌^◌, ◌<◌, ◌≤◌, Bool, true, false, ◌&&◌, ◌||◌, ◌==◌, List, [], ◌∷◌, ◌++◌}
use Rattle.std.proofs.Common.{length, Some, refl, sym, ap, ◌∙◌}
use Rattle.std.proofs.Common.{subst, arith, if◌then◌else◌}
use Rattle.std.specs.Prelude.{nat_lt, nat_le}
use Rattle.std.proofs.lemmas.Bool.{cases_lt, eq-eqb, ne_eqb, le-leb, lt-ltb}
use Rattle.gathering.specs.Parts.{AreRows, IsRow, KnownPaths, rows_text}
use Rattle.gathering.specs.PartRows.{row_text}
use Rattle.part_texts.specs.Divisions.{capped, first_piece, has_end, hashed, span_of, start_of}
use Rattle.part_texts.specs.Listings.{Listed}
use Rattle.pieces.proofs.Cutting.{cut_count_none, pieces_cover, some_pieces}
use Rattle.pieces.specs.Pieces.{pieces_of}
use Rattle.assembling.specs.Said.{Says}
use Rattle.assembling.proofs.Shares.{at_end, at_most, at_start, piece_begins}

module _ (under : KnownPaths) (p : ℕ) (hybrid : Bool) (total parts part before : ℕ) (f : Listed) (fs : List Listed) where
  pub record SaysFirst (text : List ℕ) : Type 0 where
    pub row : List ℕ
    pub is : IsRow under p f (span_of p total parts before f.bytes part) row
    pub rest : List ℕ
    pub text_is : text ≡ row_text p hybrid f.bytes row ++ rest
    pub later : Says under p hybrid total parts part (capped before (hashed f.bytes)) fs rest

  pub says_first : (text : List ℕ) → Says under p hybrid total parts part before (f ∷ fs) text → SaysFirst text
  says_first text says = parted says.rows says.are says.text_is
    where
      parted : (rows : List (List ℕ)) → AreRows under p total parts part before (f ∷ fs) rows → text ≡ rows_text p hybrid (f ∷ fs) rows → SaysFirst text
      parted [] are is = absurd are
      parted (row ∷ rows) are is = record {
        row = row;
        is = are.0;
        rest = rows_text p hybrid fs rows;
        text_is = is;
        later = record { rows = rows; are = are.1; text_is = refl };
      }

-- ---- the part that has the end of a file

pub hashed_is : (n : ℕ) → n ≤ 2 ^ 46 → hashed n ≡ n
hashed_is n small = ap (λ b. (if b then n else 0)) (le-leb n (2 ^ 46) small)

module _ (p total parts before n : ℕ) (legal : 0 < p) (any : 0 < parts) where
  -- the part that has the last piece
  last_piece : (k : ℕ) → k ≤ parts → 0 < pieces_of p (hashed n) → first_piece p total parts before n k ≡ pieces_of p (hashed n)
      → (q : ℕ) × (q < parts) × (first_piece p total parts before n q < pieces_of p (hashed n))
      × (first_piece p total parts before n (q + 1) ≡ pieces_of p (hashed n))
  last_piece zero le some is = absurd (omega (arith, at_start p total parts before n legal any, is, some))
  last_piece (suc k) le some is = elim (cases_lt (first_piece p total parts before n k) (pieces_of p (hashed n))) [
    | inl less ↦ (k, omega (arith, le), less, ap (first_piece p total parts before n) (omega arith) ∙ is)
    | inr more ↦ last_piece k (omega (arith, le)) some (omega (arith, more, at_most p total parts before n legal k))
  ]

  -- the part where an empty file stands
  stands : (d k : ℕ) → k + suc d ≡ parts → start_of total parts k ≤ before
      → (q : ℕ) × (q < parts) × (start_of total parts q ≤ before) × ((q + 1 ≡ parts) ⊎ (before < start_of total parts (q + 1)))
  stands zero k is le = (k, omega (arith, is), le, inl (omega (arith, is)))
  stands (suc d) k is le = elim (cases_lt before (start_of total parts (k + 1))) [
    | inl less ↦ (k, omega (arith, is), le, inr less)
    | inr more ↦ stands d (k + 1) (omega (arith, is)) more
  ]

  tail_or : (q : ℕ) → (q + 1 ≡ parts) ⊎ (before < start_of total parts (q + 1))
      → ((q + 1 == parts) || nat_lt before (start_of total parts (q + 1))) ≡ true
  tail_or q which = elim which [
    | inl last ↦ ap (λ b. b || nat_lt before (start_of total parts (q + 1))) (eq-eqb (q + 1) parts last)
    | inr less ↦ ap (λ b. (q + 1 == parts) || b) (lt-ltb before (start_of total parts (q + 1)) less) ∙ or_true (q + 1 == parts)
  ]
    where
      or_true : (b : Bool) → (b || true) ≡ true
      or_true true = refl
      or_true false = refl

  abbrev empty_end : ℕ → Bool
  empty_end q = nat_le (start_of total parts q) before && ((q + 1 == parts) || nat_lt before (start_of total parts (q + 1)))

  abbrev some_end : ℕ → Bool
  some_end q = nat_lt (first_piece p total parts before n q) (first_piece p total parts before n (q + 1))
      && (first_piece p total parts before n (q + 1) == pieces_of p (hashed n))

  has_last : (q : ℕ) → 0 < n → first_piece p total parts before n q < pieces_of p (hashed n)
      → first_piece p total parts before n (q + 1) ≡ pieces_of p (hashed n) → has_end p total parts before n q ≡ true
  has_last q some less is =
      ap (λ b. (if b then empty_end q else some_end q)) (ne_eqb n 0 (λ none. omega (arith, none, some)))
      ∙ ap (λ b. b && (first_piece p total parts before n (q + 1) == pieces_of p (hashed n)))
      (lt-ltb (first_piece p total parts before n q) (first_piece p total parts before n (q + 1)) (omega (arith, less, is)))
      ∙ eq-eqb (first_piece p total parts before n (q + 1)) (pieces_of p (hashed n)) is

  has_empty : (q : ℕ) → n ≡ 0 → start_of total parts q ≤ before → (q + 1 ≡ parts) ⊎ (before < start_of total parts (q + 1))
      → has_end p total parts before n q ≡ true
  has_empty q none le which =
      ap (λ b. (if b then empty_end q else some_end q)) (eq-eqb n 0 none)
      ∙ ap (λ b. b && ((q + 1 == parts) || nat_lt before (start_of total parts (q + 1)))) (le-leb (start_of total parts q) before le)
      ∙ tail_or q which

-- a file is as long as it is listed, if each part found it so as far as it has the file
pub content_size : (under : KnownPaths) (p total parts before : ℕ) (f : Listed) (c : List ℕ) → 0 < p → 0 < parts → f.bytes ≤ 2 ^ 46
    → under f.path ≡ Some (Some c)
    → ((q : ℕ) → q < parts → (row : List ℕ) × IsRow under p f (span_of p total parts before f.bytes q) row)
    → length c ≡ f.bytes
content_size under p total parts before f c legal any short known rows = elim (cases_lt 0 f.bytes) [
  | inl some ↦
      let n : ℕ = f.bytes in
      let own : hashed n ≡ n = hashed_is n short in
      let any_piece : 0 < pieces_of p (hashed n) = some_pieces p (hashed n) legal (omega (arith, own, some)) in
      let e = last_piece p total parts before n legal any parts (omega arith) any_piece (at_end p total parts before n legal) in
      let row = rows e.0 e.1 in
      let size = row.1.size in
      let ended = row.1.ended (has_last p total parts before n legal any e.0 some e.2 e.3) c known in
      let begins : first_piece p total parts before n e.0 * p < hashed n = piece_begins p (hashed n) (first_piece p total parts before n e.0) legal e.2 in
      let cover : hashed n ≤ first_piece p total parts before n (e.0 + 1) * p = subst (λ k. hashed n ≤ k * p) (sym e.3) (pieces_cover p (hashed n) legal) in
      omega (arith, size, ended, begins, cover, own, short)
  | inr none ↦
      let n : ℕ = f.bytes in
      let is : n ≡ 0 = omega (arith, none) in
      let own : hashed n ≡ 0 = ap hashed is in
      let e = stands p total parts before n legal any (parts - 1) 0 (omega (arith, any)) (omega arith) in
      let row = rows e.0 e.1 in
      let from : first_piece p total parts before n e.0 ≤ pieces_of p (hashed n) = at_most p total parts before n legal e.0 in
      let no_pieces : pieces_of p (hashed n) ≡ 0 = ap (pieces_of p) own ∙ cut_count_none p legal in
      let first : first_piece p total parts before n e.0 ≡ 0 = omega (arith, from, no_pieces) in
      let start : first_piece p total parts before n e.0 * p ≡ 0 = ap (λ k. k * p) first ∙ omega arith in
      let size = row.1.size in
      let ended = row.1.ended (has_empty p total parts before n legal any e.0 is e.2 e.3) c known in
      omega (arith, size, ended, start, own, is)
]
