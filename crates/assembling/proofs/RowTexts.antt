-- What a part's text has of the pieces of one file: nothing, or a node and digests for each.
use Rattle.std.proofs.Common.{◌≡◌, inl, inr, ℕ, suc, ◌+◌, ◌-◌, ◌*◌, ◌^◌, ◌<◌, ◌≤◌, min, Bool, true, false, List, [], ◌∷◌, ◌++◌, length}
use Rattle.std.proofs.Common.{sym, ap, ◌∙◌, subst, arith, if◌then◌else◌, length-append}
use Rattle.std.specs.Prelude.{nat_le}
use Rattle.std.proofs.lemmas.Bool.{cases_lt, ne_eqb}
use Rattle.std.proofs.lemmas.List.{nil_from_length}
use Rattle.drafts.specs.Outline.{AreOfLength}
use Rattle.gathering.specs.Parts.{IsRow, KnownPaths}
use Rattle.gathering.specs.PartRows.{joined_hashes, row_text}
use Rattle.part_texts.specs.Divisions.{capped, first_piece, hashed, span_of}
use Rattle.part_texts.specs.Listings.{Listed}
use Rattle.pieces.specs.Pieces.{IsPieceLength, pieces_of}
use Rattle.assembling.specs.Said.{FitsCount, RowSaid, Says, said_text}
use Rattle.assembling.specs.Sizes.{row_size, rows_size}
use Rattle.assembling.proofs.Joining.{legal_some}
use Rattle.assembling.proofs.Saying.{SaysFirst, says_first}
use Rattle.assembling.proofs.Shares.{at_most, pieces_between}
use Rattle.assembling.proofs.Widths.{row_fits, row_said, row_written}

-- ---- which row it is

hashed_most : (n : ℕ) → hashed n ≤ n
hashed_most n = chosen (nat_le n (2 ^ 46))
  where
    chosen : (b : Bool) → (if b then n else 0) ≤ n
    chosen true = omega arith
    chosen false = omega arith

module _ (under : KnownPaths) (p total parts before : ℕ) (f : Listed) (part : ℕ) (legal : IsPieceLength p) (row : List ℕ)
    (is : IsRow under p f (span_of p total parts before f.bytes part) row) where
  abbrev from : ℕ
  from = first_piece p total parts before f.bytes part

  abbrev to : ℕ
  to = first_piece p total parts before f.bytes (part + 1)

  some : 0 < p
  some = legal_some p legal

  most : to ≤ pieces_of p (hashed f.bytes)
  most = at_most p total parts before f.bytes some (part + 1)

  row_length : length row ≡ min (to * p) (hashed f.bytes) - from * p
  row_length = is.size

  pub no_row : to - from ≡ 0 → row ≡ []
  no_row none =
      let le : to ≤ from = omega (arith, none) in
      let under_it : to * p ≤ from * p = grind (arith, le) in
      nil_from_length row (omega (arith, row_length, under_it))

  module _ (more : from < to) where
    between : (from * p < min (to * p) (hashed f.bytes)) × (pieces_of p (min (to * p) (hashed f.bytes) - from * p) ≡ to - from)
    between =
        let gap : to ≡ from + 1 + (to - from - 1) = omega (arith, more) in
        let b = pieces_between p (hashed f.bytes) from (to - from - 1) some (omega (arith, gap, most)) in (
          subst (λ l. from * p < min (l * p) (hashed f.bytes)) (sym gap) b.0,
          ap (λ l. pieces_of p (min (l * p) (hashed f.bytes) - from * p)) gap ∙ b.1 ∙ omega (arith, more),
        )

    pub some_row : 0 < length row
    some_row = omega (arith, between.0, row_length)

    few : f.bytes ≤ p → length row ≤ p
    few le = omega (arith, row_length, le, hashed_most f.bytes)

    pub fits : FitsCount (to - from) (row_said p f.bytes row)
    fits = row_fits p f.bytes (to - from) row legal some_row few (ap (pieces_of p) row_length ∙ between.1)

-- ---- what is read of a text is the row that it says first

module _ (under : KnownPaths) (p : ℕ) (hybrid : Bool) (total parts part before : ℕ) (f : Listed) (fs : List Listed) (legal : IsPieceLength p)
    (text : List ℕ) (says : Says under p hybrid total parts part before (f ∷ fs) text) where
  abbrev pub said_first : SaysFirst under p hybrid total parts part before f fs text
  said_first = says_first under p hybrid total parts part before f fs text says

  abbrev count : ℕ
  count = first_piece p total parts before f.bytes (part + 1) - first_piece p total parts before f.bytes part

  pub first_read : (Holds : List ℕ → Type 0) → (count ≡ 0 → Holds text)
      → ((row : RowSaid) (more : List ℕ) → 0 < count → FitsCount count row → text ≡ said_text hybrid row ++ more → Holds more) → Holds said_first.rest
  first_read Holds nothing said = elim (cases_lt (first_piece p total parts before f.bytes part) (first_piece p total parts before f.bytes (part + 1))) [
    | inl more ↦
        let fitting = fits under p total parts before f part legal said_first.row said_first.is more in
        let any = some_row under p total parts before f part legal said_first.row said_first.is more in
        said (row_said p f.bytes said_first.row) said_first.rest (omega (arith, more)) fitting
        (said_first.text_is ∙ ap (λ l. l ++ said_first.rest) (row_written p f.bytes hybrid said_first.row any))
    | inr less ↦
        let none : count ≡ 0 = omega (arith, less) in
        let bare : said_first.row ≡ [] = no_row under p total parts before f part legal said_first.row said_first.is none in
        subst Holds (said_first.text_is ∙ ap (λ r. row_text p hybrid f.bytes r ++ said_first.rest) bare) (nothing none)
  ]

-- ---- how long it is

joined_length : (width : ℕ) (xs : List (List ℕ)) → AreOfLength width xs → length (joined_hashes xs) ≡ width * length xs
joined_length width [] are = omega arith
joined_length width (x ∷ xs) are =
    let rest = joined_length width xs are.1 in
    let next : width * suc (length xs) ≡ width + width * length xs = omega arith in omega (arith, length-append x (joined_hashes xs), are.0, rest, next)

pub some_size : (hybrid : Bool) (count : ℕ) → 0 < count → row_size hybrid count ≡ (if hybrid then 52 * count + 20 else 32 * count)
some_size hybrid count some =
    ap (λ b. (if b then 0 else (if hybrid then 52 * count + 20 else 32 * count))) (ne_eqb count 0 (λ none. omega (arith, none, some)))

said_length : (hybrid : Bool) (count : ℕ) (row : RowSaid) → 0 < count → FitsCount count row → length (said_text hybrid row) ≡ row_size hybrid count
said_length true count row some fitting =
    let nodes = joined_length 32 row.nodes fitting.node_widths in
    let cuts = joined_length 20 row.cuts fitting.cut_widths in
    let size : length (said_text true row) ≡ 52 * count + 20 =
    omega (
      arith,
      length-append (joined_hashes row.nodes) (joined_hashes row.cuts ++ row.padded),
      length-append (joined_hashes row.cuts) row.padded,
      nodes,
      cuts,
      fitting.nodes,
      fitting.cuts,
      fitting.padded_width,
    ) in
    size ∙ sym (some_size true count some)
said_length false count row some fitting =
    let nodes = joined_length 32 row.nodes fitting.node_widths in
    let size : length (said_text false row) ≡ 32 * count = omega (arith, length-append (joined_hashes row.nodes) [], nodes, fitting.nodes) in
    size ∙ sym (some_size false count some)

-- a part says as many bytes as it is to
pub says_length : (under : KnownPaths) (p : ℕ) (hybrid : Bool) (total parts part before : ℕ) (files : List Listed) (text : List ℕ) → IsPieceLength p
    → Says under p hybrid total parts part before files text → length text ≡ rows_size p hybrid total parts part before files
says_length under p hybrid total parts part before [] text legal says = ap length says.text_is
says_length under p hybrid total parts part before (f ∷ fs) text legal says =
    let first = said_first under p hybrid total parts part before f fs legal text says in
    let c : ℕ = first_piece p total parts before f.bytes (part + 1) - first_piece p total parts before f.bytes part in
    let rest = says_length under p hybrid total parts part (capped before (hashed f.bytes)) fs first.rest legal first.later in
    let own = first_read under p hybrid total parts part before f fs legal text says (λ more. length text ≡ row_size hybrid c + length more)
    (λ none. let size : row_size hybrid c ≡ 0 = ap (row_size hybrid) none in omega (arith, size))
    (λ row more some fitting is. ap length is ∙ length-append (said_text hybrid row) more
    ∙ ap (λ n. n + length more) (said_length hybrid c row some fitting)) in
    own ∙ ap (λ n. row_size hybrid c + n) rest
