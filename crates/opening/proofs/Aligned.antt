-- Where the files of a version 1 list begin in the stream, entry by entry and by the whole list.
use Rattle.std.proofs.Common.{zero-add, add-zero, zero-mul, inl, inr, ◌≡◌, ℕ, zero, suc, ◌+◌, ◌*◌, ◌<◌, ◌≤◌, Bool, true, false, not, cond, ◌&&◌}
use Rattle.std.proofs.Common.{if◌then◌else◌, nat_eq, nat_lt, List, [], ◌∷◌, ◌++◌, length, take, drop, map, filter, Option, Some, None, refl, sym, ap, ◌∙◌}
use Rattle.std.proofs.Common.{subst, arith, slice_get, sum_by}
use Rattle.std.proofs.Math.Nat.{add-mul}
use Rattle.std.proofs.lemmas.Option.{slice_get_within}
use Rattle.std.proofs.lemmas.Bool.{eqb-true, eqb-false, and_cases, and_parts, not-true}
use borrow.Author.Tests.{ltb-true}
use Rattle.std.proofs.lemmas.List.{length-drop, map-append}
use Rattle.std.proofs.lemmas.List.Elements.{filter-append}
use Rattle.std.proofs.lemmas.List.Sums.{sum_by-append}
use Rattle.benc.specs.Value.{Bencode, Items, no_items, item}
use Rattle.filetree.specs.FileTree.{length_of, has_attribute}
use Rattle.opening.specs.Matching.{after_entry, ends_of, is_misplaced}
use Rattle.opening.specs.Stream.{Part, Named, entry_part, parts_of, named_part, files_in, length_in, stream_length, IsMisplaced}
use Rattle.pieces.specs.Pieces.{pieces_of}
use Rattle.opening.specs.declared.version1.Ends.{Ends}
use Rattle.opening.proofs.Hybrids.{parts_back}
use Rattle.chains.proofs.Cases.{last_or_before}

-- where the last piece of the files of a list ends
abbrev pub pieces_end : ℕ → List Part → ℕ
pieces_end piece_length ps = sum_by (λ f. pieces_of piece_length f.length) (files_in ps) * piece_length

-- ---- lists at an index

pub record At {X : Type 0} (xs : List X) (i : ℕ) (x : X) (rest : List X) : Type 0 where
  pub here : slice_get xs i ≡ Some x
  pub behind : drop (suc i) xs ≡ rest
  pub before : take (suc i) xs ≡ take i xs ++ x ∷ []

at_index : {X : Type 0} (xs : List X) (i : ℕ) (x : X) (rest : List X) → drop i xs ≡ x ∷ rest → At xs i x rest
at_index [] zero x rest e = let bad : ⊥ = cc in absurd bad
at_index [] (suc i) x rest e = let bad : ⊥ = cc in absurd bad
at_index (y ∷ ys) zero x rest e =
    let same : y ≡ x = cc in
    let left : ys ≡ rest = cc in
    record { here = ap Some same; behind = left; before = ap (λ t. t ∷ []) same }
at_index (y ∷ ys) (suc i) x rest e =
    let h = at_index ys i x rest e in
    record { here = h.here; behind = h.behind; before = ap (λ t. y ∷ t) h.before }

all_taken : {X : Type 0} (xs : List X) (i : ℕ) → drop i xs ≡ [] → take i xs ≡ xs
all_taken [] zero e = refl
all_taken [] (suc i) e = refl
all_taken (x ∷ xs) zero e = let bad : ⊥ = cc in absurd bad
all_taken (x ∷ xs) (suc i) e = ap (λ t. x ∷ t) (all_taken xs i e)

-- ---- one more entry

files_after : (ps : List Part) (p : Part) → files_in (ps ++ p ∷ []) ≡ files_in ps ++ files_in (p ∷ [])
files_after ps p = ap (map named_part) (filter-append (λ (q : Part). not q.is_pad) ps (p ∷ []))
    ∙ map-append named_part (filter (λ (q : Part). not q.is_pad) ps) (filter (λ (q : Part). not q.is_pad) (p ∷ []))

stream_after : (ps : List Part) (p : Part) → stream_length (ps ++ p ∷ []) ≡ stream_length ps + length_in p
stream_after ps p = sum_by-append length_in ps (p ∷ []) ∙ ap (λ t. stream_length ps + t) (zero-add (length_in p))

pieces_after : (k : ℕ) (ps : List Part) (p : Part) → pieces_end k (ps ++ p ∷ []) ≡ pieces_end k ps + pieces_end k (p ∷ [])
pieces_after k ps p =
    let f = λ (n : Named). pieces_of k n.length in
    ap (λ t. sum_by f t * k) (files_after ps p) ∙ ap (λ t. t * k) (sum_by-append f (files_in ps) (files_in (p ∷ [])))
    ∙ add-mul (sum_by f (files_in ps)) (sum_by f (files_in (p ∷ []))) k

pieces_one : (k : ℕ) (p : Part) (pad : Bool) → p.is_pad ≡ pad → pieces_end k (p ∷ []) ≡ (if pad then 0 else pieces_of k (length_in p) * k)
pieces_one k p true e = ap (λ t. sum_by (λ (n : Named). pieces_of k n.length) (map named_part (cond (not t) (p ∷ []) [])) * k) e ∙ zero-mul k
pieces_one k p false e =
    ap (λ t. sum_by (λ (n : Named). pieces_of k n.length) (map named_part (cond (not t) (p ∷ []) [])) * k) e
    ∙ ap (λ t. t * k) (zero-add (pieces_of k (length_in p)))

-- ---- the list so far

-- the ends are those of the first i parts, and each file among these begins at its piece
pub record IsEnd (k : ℕ) (all : List Part) (i : ℕ) (e : Ends) : Type 0 where
  pub stream_is : e.stream ≡ stream_length (take i all)
  pub pieces_is : e.pieces ≡ pieces_end k (take i all)
  pub placed : (j : ℕ) (p : Part) → j < i → slice_get all j ≡ Some p → p.is_pad ≡ false → 0 < length_in p
      → stream_length (take j all) ≡ pieces_end k (take j all)

-- the ends of the whole list, where no file is misplaced; or some is
abbrev pub AreEnds : ℕ → List Part → Option Ends → Type 0
AreEnds k all None = IsMisplaced k all
AreEnds k all (Some e) = (e.stream ≡ stream_length all) × (e.pieces ≡ pieces_end k all) × (IsMisplaced k all → ⊥)

placed_here : (v : Bencode) (e : Ends) → is_misplaced v e ≡ false → has_attribute 112 v ≡ false → 0 < length_of v → e.stream ≡ e.pieces
placed_here v e right file some = elim (and_cases (not (has_attribute 112 v) && nat_lt 0 (length_of v)) (not (nat_eq e.stream e.pieces)) right) [
  | inl other ↦ absurd (grind (arith, other, file, some))
  | inr same ↦ eqb-true e.stream e.pieces (grind (arith, same))
]

pieces_by : (k : ℕ) (e : Ends) (v : Bencode) (pad : Bool) → has_attribute 112 v ≡ pad
    → (if pad then e.pieces else e.pieces + pieces_of k (length_of v) * k) ≡ e.pieces + pieces_end k (entry_part v ∷ [])
pieces_by k e v true pad = sym (ap (λ t. e.pieces + t) (pieces_one k (entry_part v) true pad) ∙ add-zero e.pieces)
pieces_by k e v false pad = ap (λ t. e.pieces + t) (sym (pieces_one k (entry_part v) false pad))

one_more : (k : ℕ) (all : List Part) (i : ℕ) (e : Ends) (v : Bencode) → is_misplaced v e ≡ false → slice_get all i ≡ Some (entry_part v)
    → take (suc i) all ≡ take i all ++ entry_part v ∷ [] → IsEnd k all i e → IsEnd k all (suc i) (after_entry k v e)
one_more k all i e v right here before h = record {
  stream_is = ap (λ t. t + length_of v) h.stream_is ∙ sym (ap stream_length before ∙ stream_after (take i all) (entry_part v));
  pieces_is = pieces_by k e v (has_attribute 112 v) refl ∙ ap (λ t. t + pieces_end k (entry_part v ∷ [])) h.pieces_is
      ∙ sym (ap (pieces_end k) before ∙ pieces_after k (take i all) (entry_part v));
  placed = λ j p lt at file some. elim (last_or_before j i (omega (arith, lt))) [
    | inl below ↦ h.placed j p below at file some
    | inr is ↦ (
        let same : Some p ≡ Some (entry_part v) = sym at ∙ ap (slice_get all) is ∙ here in
        let part : p ≡ entry_part v = cc in
        let of_file : has_attribute 112 v ≡ false = ap (λ (q : Part). q.is_pad) (sym part) ∙ file in
        let positive : 0 < length_of v = subst (λ (q : Part). 0 < length_in q) part some in
        ap (λ n. stream_length (take n all)) is ∙ sym h.stream_is ∙ placed_here v e right of_file positive ∙ h.pieces_is
        ∙ ap (λ n. pieces_end k (take n all)) (sym is))
  ];
}

misplaced_here : (k : ℕ) (all : List Part) (i : ℕ) (e : Ends) (v : Bencode) → is_misplaced v e ≡ true → slice_get all i ≡ Some (entry_part v)
    → IsEnd k all i e → IsMisplaced k all
misplaced_here k all i e v wrong here h =
    let parts = and_parts (not (has_attribute 112 v) && nat_lt 0 (length_of v)) (not (nat_eq e.stream e.pieces)) wrong in
    let inner = and_parts (not (has_attribute 112 v)) (nat_lt 0 (length_of v)) parts.0 in
    record {
      number = i;
      part = entry_part v;
      there = here;
      no_pad = not-true (has_attribute 112 v) inner.0;
      some = ltb-true 0 (length_of v) inner.1;
      elsewhere = λ same. eqb-false e.stream e.pieces (not-true (nat_eq e.stream e.pieces) parts.1) (h.stream_is ∙ same ∙ sym h.pieces_is);
    }

ends_by : (k : ℕ) (vs : Items) (v : Bencode) (all : List Part) (i : ℕ) (e : Ends) (wrong : Bool) → is_misplaced v e ≡ wrong
    → slice_get all i ≡ Some (entry_part v) → take (suc i) all ≡ take i all ++ entry_part v ∷ [] → IsEnd k all i e
    → (IsEnd k all (suc i) (after_entry k v e) → AreEnds k all (ends_of k vs (after_entry k v e)))
    → AreEnds k all (if wrong then None else ends_of k vs (after_entry k v e))
ends_by k vs v all i e true is here before h rest = misplaced_here k all i e v is here h
ends_by k vs v all i e false is here before h rest = rest (one_more k all i e v is here before h)

none_misplaced : (k : ℕ) (all : List Part) (i : ℕ) (e : Ends) → take i all ≡ all → length all ≤ i → IsEnd k all i e → IsMisplaced k all → ⊥
none_misplaced k all i e whole past h m =
    m.elsewhere (h.placed m.number m.part (omega (arith, slice_get_within all m.number m.part m.there)) m.there m.no_pad m.some)

pub ends_are : (k : ℕ) (vs : Items) (all : List Part) (i : ℕ) (e : Ends) → parts_of vs ≡ Some (drop i all) → IsEnd k all i e → AreEnds k all (ends_of k vs e)
ends_are k no_items all i e left h =
    let none : drop i all ≡ [] = cc in
    let whole = all_taken all i none in
    let past : length all ≤ i = omega (arith, ap length none, length-drop i all) in
    (h.stream_is ∙ ap stream_length whole, h.pieces_is ∙ ap (pieces_end k) whole, none_misplaced k all i e whole past h)
ends_are k (item v vs) all i e left h =
    let b = parts_back v vs (drop i all) left in
    let at = at_index all i (entry_part v) b.rest b.parts in
    ends_by k vs v all i e (is_misplaced v e) refl at.here at.before h
    (λ more. ends_are k vs all (suc i) (after_entry k v e) (b.behind ∙ ap Some (sym at.behind)) more)
