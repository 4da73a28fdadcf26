-- Where contents stand in the stream, and that zeros stand elsewhere.
use Rattle.std.proofs.Common.{◌≡◌, ℕ, zero, suc, ◌+◌, ◌-◌, ◌*◌, ◌<◌, ◌≤◌, ◌⊎◌, true, List, [], ◌∷◌, ◌++◌, length, take, drop, replicate, get_or, Some}
use Rattle.std.proofs.Common.{slice_get, inl, inr, refl, ap, subst, ◌∙◌, append_assoc, arith, length-append}
use Rattle.std.proofs.Math.Seq.{drop-append-add, take-append_seam}
use Rattle.std.proofs.lemmas.Bool.{cases_lt}
use Rattle.std.proofs.lemmas.List.{length-replicate, get_or-append_right, get_or-replicate, get_or_past, get_or_append_left}
use Rattle.std.specs.Prelude.{nat_lt, slice_index}
use Rattle.filetree.proofs.Bytes.{true_or_false}
use Rattle.pieces.specs.Pieces.{pieces_of}
use Rattle.round_trips.proofs.CutDigests.{block_of}
use Rattle.round_trips.proofs.Made.{block_length, has_bytes, none_left, starts, stream}

some_at : (cs : List (List ℕ)) (n : ℕ) (c : List ℕ) → slice_get cs n ≡ Some c → 0 < length c → has_bytes cs ≡ true
some_at [] n c at more = cc
some_at (x ∷ cs) zero c at more =
    let same : x ≡ c = cc in
    let yes : nat_lt 0 (length c) ≡ true = grind (arith, more) in
    let here : nat_lt 0 (length x) ≡ true = ap (λ (y : List ℕ). nat_lt 0 (length y)) same ∙ yes in
    rw here refl
some_at (x ∷ cs) (suc n) c at more =
    let later = some_at cs n c at more in
    elim (true_or_false (nat_lt 0 (length x))) [ inl here ↦ rw here refl | inr not ↦ rw not later ]

at_front : (c a b : List ℕ) → take (length c) ((c ++ a) ++ b) ≡ c
at_front c a b = ap (take (length c)) (append_assoc c a b) ∙ take-append_seam c (a ++ b)

-- a content that is not empty stands at its start
pub stands : (p : ℕ) (cs : List (List ℕ)) (n : ℕ) (c : List ℕ) → 0 < p → slice_get cs n ≡ Some c → 0 < length c
    → take (length c) (drop (starts p cs n * p) (stream p cs)) ≡ c
stands p [] n c some at more = cc
stands p (x ∷ cs) zero c some at more =
    let same : x ≡ c = cc in
    let none : 0 * p ≡ 0 = omega arith in
    let here : take (length x) (stream p (x ∷ cs)) ≡ x = elim (true_or_false (has_bytes cs)) [
      | inl later ↦ rw later (at_front x (replicate (pieces_of p (length x) * p - length x) 0) (stream p cs))
      | inr last ↦ rw last (take-append_seam x (stream p cs))
    ]
    in
    ap (λ k. take (length c) (drop k (stream p (x ∷ cs)))) none ∙ subst (λ (y : List ℕ). take (length y) (stream p (x ∷ cs)) ≡ y) same here
stands p (x ∷ cs) (suc n) c some at more =
    let later = some_at cs n c at more in
    let size = block_length p x some in
    let past : (pieces_of p (length x) + starts p cs n) * p ≡ length (block_of p x) + starts p cs n * p = omega (arith, size) in
    rw later (ap (λ k. take (length c) (drop k (block_of p x ++ stream p cs))) past
    ∙ ap (take (length c)) (drop-append-add (block_of p x) (stream p cs) (starts p cs n * p))
    ∙ stands p cs n c some at more)

-- a content covers this place of the stream
pub record CoversAt (p : ℕ) (cs : List (List ℕ)) (i : ℕ) : Type 0 where
  pub number : ℕ
  pub content : List ℕ
  pub there : slice_get cs number ≡ Some content
  pub from : starts p cs number * p ≤ i
  pub to : i < starts p cs number * p + length content

further : (p : ℕ) (x : List ℕ) (cs : List (List ℕ)) (i j : ℕ) → 0 < p → i ≡ pieces_of p (length x) * p + j → CoversAt p cs j → CoversAt p (x ∷ cs) i
further p x cs i j some e c =
    let at : (pieces_of p (length x) + starts p cs c.number) * p ≡ pieces_of p (length x) * p + starts p cs c.number * p = omega arith in
    let from = c.from in
    let to = c.to in
    record { number = suc c.number; content = c.content; there = c.there; from = omega (arith, at, e, from); to = omega (arith, at, e, to) }

pub covered : (p : ℕ) (cs : List (List ℕ)) (i : ℕ) → 0 < p → (slice_index (stream p cs) i ≡ 0) ⊎ CoversAt p cs i
covered p [] i some = inl (get_or_past {X = ℕ} [] i 0 (omega arith))
covered p (x ∷ cs) i some =
    elim (cases_lt i (length x)) [
      | inl inside ↦ let none : 0 * p ≡ 0 = omega arith in
          inr (record { number = 0; content = x; there = refl; from = omega (arith, none); to = omega (arith, none, inside) })
      | inr past ↦ elim (true_or_false (has_bytes cs)) [
        | inl later ↦
            let size = block_length p x some in
            elim (cases_lt i (length (block_of p x))) [
              | inl within ↦
                  let gap = pieces_of p (length x) * p - length x in
                  let zeros = replicate {A = ℕ} gap 0 in
                  let both = length-append x zeros in
                  let count = length-replicate {A = ℕ} gap 0 in
                  inl (rw later (get_or_append_left (block_of p x) (stream p cs) 0 i within
                  ∙ get_or-append_right x zeros (length x) i 0 refl past
                  ∙ get_or-replicate gap (i - length x) 0 0 (omega (arith, within, past, both, count))))
              | inr behind ↦
                  let j = i - length (block_of p x) in
                  let sum : i ≡ length (block_of p x) + j = omega (arith, behind) in
                  elim (covered p cs j some) [
                    | inl nothing ↦ inl (rw later (get_or-append_right (block_of p x) (stream p cs) (length (block_of p x)) i 0 refl behind ∙ nothing))
                    | inr c ↦ inr (further p x cs i j some (omega (arith, sum, size)) c)
                  ]
            ]
        | inr last ↦
            let size = length-append {A = ℕ} x [] in
            inl (rw last (ap (λ y. get_or (x ++ y) i 0) (none_left p cs last) ∙ get_or_past (x ++ []) i 0 (omega (arith, size, past))))
      ]
    ]
