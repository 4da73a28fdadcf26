-- The pieces in runs, and their marks.
use Rattle.std.proofs.Common.{◌≡◌, ◌⊎◌, inl, inr, ℕ, ◌+◌, ◌-◌, ◌<◌, ◌≤◌, List, [], ◌∷◌, ◌++◌, length}
use Rattle.std.proofs.Common.{slice_get, Some, refl, ap, ◌∙◌, arith}
use Rattle.chains.proofs.Cases.{item_stays, pushed_at, pushed_last}
use Rattle.opening.specs.Description.{FileEntry}
use Rattle.parts.specs.Runs.{Run}
use Rattle.part_reports.specs.Marks.{IsInRuns, MarksMore}
use Rattle.part_reports.specs.declared.marked_report.BadPieces.{BadPieces}

-- ---- the pieces in runs

abbrev pub IsBetween : ℕ → ℕ → ℕ → Type 0
IsBetween from to piece = (from ≤ piece) × (piece < to)

pub in_more : (f : FileEntry) (rs : List Run) (r : Run) (q : ℕ) → IsInRuns f (rs ++ r ∷ []) q
    → IsInRuns f rs q ⊎ IsBetween (f.first_piece + r.first) (f.first_piece + (r.last + 1)) q
in_more f rs r q in_all =
    let k : ℕ = in_all.0 in
    let one = in_all.2 in
    let x : Run = one.1 in
    elim (pushed_at rs r x one.0 one.2) [
      | inl before ↦ inl (k, in_all.1, (one.0, x, before, one.3, one.4))
      | inr last ↦
          let first : r.first ≡ x.first = ap (λ (y : Run). y.first) last.1 in
          let end : r.last ≡ x.last = ap (λ (y : Run). y.last) last.1 in
          inr (omega (arith, in_all.1, one.3, first), omega (arith, in_all.1, one.4, end))
    ]

pub more_in : (f : FileEntry) (rs : List Run) (r : Run) (q : ℕ)
    → IsInRuns f rs q ⊎ IsBetween (f.first_piece + r.first) (f.first_piece + (r.last + 1)) q → IsInRuns f (rs ++ r ∷ []) q
more_in f rs r q (inl old) =
    let one = old.2 in
    (old.0, old.1, (one.0, one.1, item_stays rs (r ∷ []) one.0 one.1 one.2, one.3, one.4))
more_in f rs r q (inr last) =
    let k : ℕ = q - f.first_piece in (
      k,
      omega (arith, last.0),
      (length rs, r, pushed_last rs r (length rs) refl, omega (arith, last.0), omega (arith, last.0, last.1)),
    )

-- nothing is in no runs
pub in_none : (f : FileEntry) (q : ℕ) → IsInRuns f [] q → ⊥
in_none f q is_in = no_item is_in.2.0 is_in.2.1 is_in.2.2
  where
    no_item : (i : ℕ) (r : Run) → slice_get [] i ≡ Some r → ⊥
    no_item i r at = (let x : ⊥ = cc in x)

-- ---- marks

pub marks_none : (Are : ℕ → Type 0) (bad : BadPieces) → ((q : ℕ) → Are q → ⊥) → MarksMore Are bad bad
marks_none Are bad none = record {
  count = refl;
  each = λ q. (λ on. inl on, λ is. elim is [ inl on ↦ on | inr are ↦ absurd (none q are) ]);
}

pub marks_same : (A B : ℕ → Type 0) (old new : BadPieces) → ((q : ℕ) → A q → B q) → ((q : ℕ) → B q → A q) → MarksMore A old new → MarksMore B old new
marks_same A B old new to from marks = record {
  count = marks.count;
  each = λ q. (
    λ on. elim ((marks.each q).0 on) [
      | inl before ↦ inl before
      | inr a ↦ inr (to q a)
    ],
    λ is. elim is [
      | inl before ↦ (marks.each q).1 (inl before)
      | inr b ↦ (marks.each q).1 (inr (from q b))
    ],
  );
}

pub marks_both : (A B C : ℕ → Type 0) (old mid new : BadPieces) → MarksMore A old mid → MarksMore B mid new → ((q : ℕ) → C q → A q ⊎ B q)
    → ((q : ℕ) → A q ⊎ B q → C q) → MarksMore C old new
marks_both A B C old mid new one two to from = record {
  count = two.count ∙ one.count;
  each = λ q. (
    λ on. elim ((two.each q).0 on) [
      | inl before ↦ elim ((one.each q).0 before) [
        | inl first ↦ inl first
        | inr a ↦ inr (from q (inl a))
      ]
      | inr b ↦ inr (from q (inr b))
    ],
    λ is. elim is [
      | inl first ↦ (two.each q).1 (inl ((one.each q).1 (inl first)))
      | inr c ↦ elim (to q c) [
        | inl a ↦ (two.each q).1 (inl ((one.each q).1 (inr a)))
        | inr b ↦ (two.each q).1 (inr b)
      ]
    ],
  );
}
