-- How what all parts say of one file is taken, part by part.
use Rattle.std.proofs.Common.{◌≡◌, ◌≢◌, ◌⊎◌, inl, inr, ℕ, zero, suc, ◌+◌, ◌-◌, ◌*◌, ◌^◌, ◌<◌, ◌≤◌, min, Bool, true, List, [], ◌∷◌, ◌++◌, length, map, take}
use Rattle.std.proofs.Common.{drop, set, slice_get, Some, get_or}
use Rattle.std.proofs.Common.{refl, sym, ap, ◌∙◌, subst, arith}
use Rattle.std.proofs.lemmas.Bool.{cases_lt}
use Rattle.std.proofs.lemmas.Option.{none-some, same_Some, slice_get-get_or, slice_get_within}
use Rattle.gathering.specs.Parts.{IsRow, KnownPaths}
use Rattle.gathering.specs.PartRows.{row_nodes, row_text}
use Rattle.part_texts.specs.Divisions.{capped, first_piece, hashed, span_of}
use Rattle.part_texts.specs.Listings.{Listed}
use Rattle.pieces.specs.Cuts.{cut_digests, filled_up, last_cut_of}
use Rattle.pieces.specs.Pieces.{IsPieceLength, pieces_of}
use Rattle.sha1.specs.Sha1.{sha1}
use Rattle.assembling.specs.Reading.{IsBehind}
use Rattle.assembling.specs.Said.{EachSays, FitsCount, RowSaid, Says, said_text}
use Rattle.assembling.specs.Taking.{IsContentTaken, IsHeld}
use Rattle.assembling.specs.declared.rows.FileRows.{FileRows}
use Rattle.assembling.proofs.Joining.{Upto, legal_some, upto_all, upto_more, upto_none}
use Rattle.assembling.proofs.RowTexts.{fits, no_row, some_row}
use Rattle.assembling.proofs.Saying.{SaysFirst, content_size, hashed_is, says_first}
use Rattle.assembling.proofs.Shares.{at_end, at_most, at_start, at_up, piece_begins}
use Rattle.assembling.proofs.Widths.{row_said, row_written}

-- ---- a list in which one item is another

pub set_at : {A : Type 0} (xs : List A) (i : ℕ) (y : A) (j : ℕ) (z : A) → slice_get (set xs i y) j ≡ Some z
    → ((j ≡ i) × (z ≡ y)) ⊎ ((j ≢ i) × (slice_get xs j ≡ Some z))
set_at [] i y j z at = absurd (none-some z at)
set_at (x ∷ xs) zero y zero z at = inl (refl, sym (same_Some y z at))
set_at (x ∷ xs) zero y (suc j) z at = inr ((λ is. omega (arith, is)), at)
set_at (x ∷ xs) (suc i) y zero z at = inr ((λ is. omega (arith, is)), at)
set_at (x ∷ xs) (suc i) y (suc j) z at = elim (set_at xs i y j z at) [
  | inl here ↦ inl (ap suc here.0, here.1)
  | inr other ↦ inr ((λ is. other.0 (omega (arith, is))), other.1)
]

pub map_set : {A B : Type 0} (f : A → B) (xs : List A) (i : ℕ) (y : A) → map f (set xs i y) ≡ set (map f xs) i (f y)
map_set f [] i y = refl
map_set f (x ∷ xs) zero y = refl
map_set f (x ∷ xs) (suc i) y = ap (λ ys. f x ∷ ys) (map_set f xs i y)

-- ---- a file, as far as the parts before one say it

module _ (under : KnownPaths) (p : ℕ) (hybrid : Bool) (total parts before : ℕ) (f : Listed) (fs : List Listed) (c : List ℕ) where
  pub record IsUnderWay (part : ℕ) (rows : FileRows) (texts : List (List ℕ)) : Type 0 where
    pub upto : Upto p hybrid c (first_piece p total parts before f.bytes part) rows.nodes.items rows.v1.cuts.items rows.v1.padded
    pub done : (q : ℕ) (text : List ℕ) → q < part → slice_get texts q ≡ Some text → Says under p hybrid total parts q (capped before (hashed f.bytes)) fs text
    pub todo : (q : ℕ) (text : List ℕ) → part ≤ q → slice_get texts q ≡ Some text → Says under p hybrid total parts q before (f ∷ fs) text

  pub begun : (rows : FileRows) (texts : List (List ℕ)) → IsPieceLength p → 0 < parts → rows.nodes.items ≡ [] → rows.v1.cuts.items ≡ []
      → EachSays under p hybrid total parts before (f ∷ fs) texts → IsUnderWay 0 rows texts
  begun rows texts legal any nodes cuts says = record {
    upto = subst (λ k. Upto p hybrid c k rows.nodes.items rows.v1.cuts.items rows.v1.padded)
        (sym (at_start p total parts before f.bytes (legal_some p legal) any))
        (subst (λ x. Upto p hybrid c 0 x rows.v1.cuts.items rows.v1.padded) (sym nodes)
        (subst (λ x. Upto p hybrid c 0 [] x rows.v1.padded) (sym cuts) (upto_none p hybrid c rows.v1.padded legal)));
    done = λ q text lt at. absurd (omega (arith, lt));
    todo = λ q text le at. says q text at;
  }

  -- what a part says of a row of some pieces
  module _ (part : ℕ) (legal : IsPieceLength p) (low : part < parts) (known : under f.path ≡ Some (Some c)) (short : f.bytes ≤ 2 ^ 46)
      (size : length c ≡ f.bytes)
      (row : List ℕ) (is : IsRow under p f (span_of p total parts before f.bytes part) row) where
    abbrev from : ℕ
    from = first_piece p total parts before f.bytes part

    abbrev to : ℕ
    to = first_piece p total parts before f.bytes (part + 1)

    some : 0 < p
    some = legal_some p legal

    own : hashed f.bytes ≡ f.bytes
    own = hashed_is f.bytes short

    most : to ≤ pieces_of p (length c)
    most = omega (arith, at_most p total parts before f.bytes some (part + 1), ap (pieces_of p) (own ∙ sym size))

    row_size : length row ≡ min (to * p) (length c) - from * p
    row_size = is.size ∙ ap (λ n. min (to * p) n - from * p) (own ∙ sym size)

    module _ (more : from < to) where
      begins : from * p < length c
      begins = piece_begins p (length c) from some (omega (arith, more, most))

      place : row ≡ take (length row) (drop (from * p) c)
      place = is.agrees c known ∙ ap (λ k. take (length row) (drop k c)) (omega (arith, begins, size, short))

      pub more_said : (nodes cuts : List (List ℕ)) (padded : List ℕ) → Upto p hybrid c from nodes cuts padded
          → Upto p hybrid c to (nodes ++ row_nodes p f.bytes row) (cuts ++ cut_digests p row) (sha1 (filled_up p (last_cut_of p row)))
      more_said nodes cuts padded so_far =
          subst (λ n. Upto p hybrid c to (nodes ++ row_nodes p n row) (cuts ++ cut_digests p row) (sha1 (filled_up p (last_cut_of p row)))) size
          (upto_more p hybrid c from to row nodes cuts padded legal more most place row_size so_far)

-- digests that only a hybrid has
plain_or : (p : ℕ) (hybrid : Bool) (c : List ℕ) (k : ℕ) (nodes cuts cuts' : List (List ℕ)) (padded padded' : List ℕ) → (hybrid ≡ true → cuts' ≡ cuts)
    → (hybrid ≡ true → padded' ≡ padded) → Upto p hybrid c k nodes cuts padded → Upto p hybrid c k nodes cuts' padded'
plain_or p hybrid c k nodes cuts cuts' padded padded' cuts_same padded_same u = record {
  many = u.many;
  none = u.none;
  one = u.one;
  cuts_are = λ is. cuts_same is ∙ u.cuts_are is;
  padded_is = λ is some. padded_same is ∙ u.padded_is is some;
}

-- one part more was read
module _ (under : KnownPaths) (p : ℕ) (hybrid : Bool) (total parts before : ℕ) (f : Listed) (fs : List Listed) (c : List ℕ) (part : ℕ)
    (text rest : List ℕ) (rows rows' : FileRows) (texts texts' : List (List ℕ)) (legal : IsPieceLength p) (low : part < parts)
    (known : under f.path ≡ Some (Some c)) (short : f.bytes ≤ 2 ^ 46) (size : length c ≡ f.bytes) (there : slice_get texts part ≡ Some text)
    (set_is : texts' ≡ set texts part rest) (way : IsUnderWay under p hybrid total parts before f fs c part rows texts) where
  abbrev start : ℕ
  start = first_piece p total parts before f.bytes part

  abbrev end : ℕ
  end = first_piece p total parts before f.bytes (part + 1)

  abbrev first : SaysFirst under p hybrid total parts part before f fs text
  first = says_first under p hybrid total parts part before f fs text (way.todo part text (omega arith) there)

  passed : rest ≡ first.rest → Upto p hybrid c end rows'.nodes.items rows'.v1.cuts.items rows'.v1.padded
      → IsUnderWay under p hybrid total parts before f fs c (part + 1) rows' texts'
  passed is upto = record {
    upto = upto;
    done = λ q x lt at. elim (set_at texts part rest q x (sym (ap (λ xs. slice_get xs q) set_is) ∙ at)) [
      | inl here ↦ subst (λ k. Says under p hybrid total parts k (capped before (hashed f.bytes)) fs x) (sym here.0)
          (subst (λ (t : List ℕ). Says under p hybrid total parts part (capped before (hashed f.bytes)) fs t) (sym (here.1 ∙ is)) first.later)
      | inr other ↦ way.done q x (below q lt other.0) other.1
    ];
    todo = λ q x le at. elim (set_at texts part rest q x (sym (ap (λ xs. slice_get xs q) set_is) ∙ at)) [
      | inl here ↦ absurd (omega (arith, here.0, le))
      | inr other ↦ way.todo q x (omega (arith, le)) other.1
    ];
  }
    where
      below : (q : ℕ) → q < part + 1 → q ≢ part → q < part
      below q lt other = elim (cases_lt q part) [ inl less ↦ less | inr more ↦ absurd (other (omega (arith, lt, more))) ]

  pub part_read : (end - start ≡ 0 → (rest ≡ text) × (rows' ≡ rows))
      → ((row : RowSaid) (more : List ℕ) → 0 < end - start → FitsCount (end - start) row → text ≡ said_text hybrid row ++ more
      → (rest ≡ more) × IsBehind hybrid row rows rows')
      → IsUnderWay under p hybrid total parts before f fs c (part + 1) rows' texts'
  part_read nothing said = elim (cases_lt start end) [
    | inl more ↦
        let fitting = fits under p total parts before f part legal first.row first.is more in
        let any = some_row under p total parts before f part legal first.row first.is more in
        let own = said (row_said p f.bytes first.row) first.rest (omega (arith, more)) fitting
        (first.text_is ∙ ap (λ l. l ++ first.rest) (row_written p f.bytes hybrid first.row any)) in
        let upto = more_said under p hybrid total parts before f fs c part legal low known short size first.row first.is more rows.nodes.items
        rows.v1.cuts.items rows.v1.padded way.upto in
        passed own.0
        (subst (λ (ns : List (List ℕ)). Upto p hybrid c end ns rows'.v1.cuts.items rows'.v1.padded) (sym own.1.nodes)
        (plain_or p hybrid c end (rows.nodes.items ++ row_nodes p f.bytes first.row) (rows.v1.cuts.items ++ cut_digests p first.row) rows'.v1.cuts.items
        (sha1 (filled_up p (last_cut_of p first.row))) rows'.v1.padded own.1.cuts own.1.padded upto))
    | inr less ↦
        let none : end - start ≡ 0 = omega (arith, less) in
        let same : end ≡ start = omega (arith, less, at_up p total parts before f.bytes (legal_some p legal) part low) in
        let own = nothing none in
        let bare : first.row ≡ [] = no_row under p total parts before f part legal first.row first.is none in
        let text_is : text ≡ first.rest = first.text_is ∙ ap (λ r. row_text p hybrid f.bytes r ++ first.rest) bare in
        passed (own.0 ∙ text_is)
        (subst (λ k. Upto p hybrid c k rows'.nodes.items rows'.v1.cuts.items rows'.v1.padded) (sym same)
        (subst (λ (r : FileRows). Upto p hybrid c start r.nodes.items r.v1.cuts.items r.v1.padded) (sym own.1) way.upto))
  ]

-- all parts were read
module _ (under : KnownPaths) (p : ℕ) (hybrid : Bool) (total before : ℕ) (f : Listed) (fs : List Listed) (c : List ℕ) where
  pub held_size : (texts : List (List ℕ)) → IsPieceLength p → 0 < length texts → IsHeld under p hybrid total before f fs c texts → length c ≡ f.bytes
  held_size texts legal any held =
      content_size under p total (length texts) before f c (legal_some p legal) any held.short held.known
      (λ q lt.
      let text : List ℕ = get_or texts q [] in
      let first = says_first under p hybrid total (length texts) q before f fs text (held.says q text (slice_get-get_or texts q [] lt)) in
      (first.row, first.is))

  pub all_taken : (parts : ℕ) (rows : FileRows) (texts : List (List ℕ)) → IsPieceLength p → f.bytes ≤ 2 ^ 46 → length c ≡ f.bytes → length texts ≡ parts
      → IsUnderWay under p hybrid total parts before f fs c parts rows texts → IsContentTaken under p hybrid total before f fs c rows texts
  all_taken parts rows texts legal short size count way = record {
    is = upto_all p hybrid c rows legal
        (subst (λ k. Upto p hybrid c k rows.nodes.items rows.v1.cuts.items rows.v1.padded)
        (at_end p total parts before f.bytes (legal_some p legal) ∙ ap (pieces_of p) (hashed_is f.bytes short ∙ sym size)) way.upto);
    size = size;
    later = λ q text at. subst (λ n. Says under p hybrid total n q (capped before (hashed f.bytes)) fs text) (sym count)
        (way.done q text (omega (arith, slice_get_within texts q text at, count)) at);
  }
