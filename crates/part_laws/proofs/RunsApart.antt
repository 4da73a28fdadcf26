-- Between two maximal runs of bad pieces lies a piece that is in none.
use Rattle.std.proofs.Common.{◌≡◌, inl, inr, ℕ, suc, ◌+◌, ◌<◌, ◌≤◌, List, [], ◌∷◌, slice_get, Some, refl, arith}
use Rattle.std.proofs.lemmas.Bool.{cases_lt}
use Rattle.parts.specs.Runs.{AreBadRuns, IsBadRun, Run}
use Rattle.part_reports.specs.Marks.{AreRunsWithin}

module _ (count to : ℕ) (IsGood : ℕ → Type 0) where
  record AreApart (runs : List Run) : Type 0 where
    each : (i : ℕ) (r : Run) → slice_get runs i ≡ Some r → IsBadRun count IsGood r × (r.last < to)
    ascend : (i j : ℕ) (a b : Run) → i < j → slice_get runs i ≡ Some a → slice_get runs j ≡ Some b → a.last < b.first

  apart_within : (at : ℕ) (runs : List Run) → AreApart runs → ((r : Run) → slice_get runs 0 ≡ Some r → at ≤ r.first) → AreRunsWithin at to runs
  apart_within at [] are low = tt
  apart_within at (r ∷ rs) are low =
      let one = are.each 0 r refl in (
        low r refl,
        one.0.order,
        one.1,
        apart_within (r.last + 2) rs
            (record { each = λ i x at. are.each (suc i) x at; ascend = λ i j a b lt ai bj. are.ascend (suc i) (suc j) a b (omega (arith, lt)) ai bj })
            (λ s at_s.
            let other = (are.each 1 s at_s).0 in
            let after = are.ascend 0 1 r s (omega arith) refl at_s in
            elim (cases_lt (r.last + 1) s.first) [
              | inl gap ↦ omega (arith, gap)
              | inr touch ↦
                  let good = one.0.good_after (omega (arith, touch, other.order, other.inside, after)) in
                  absurd (other.bad (r.last + 1) (omega (arith, touch)) (omega (arith, after, other.order)) good)
            ]),
      )

pub runs_within : (count from to end : ℕ) (IsGood : ℕ → Type 0) (runs : List Run) → AreBadRuns count end IsGood runs
    → ((i : ℕ) (r : Run) → slice_get runs i ≡ Some r → (from ≤ r.first) × (r.last < to)) → AreRunsWithin from to runs
runs_within count from to end IsGood runs are inside =
    apart_within count to IsGood from runs (record { each = λ i r at. ((are.each i r at).0, (inside i r at).1); ascend = are.ascend })
    (λ r at. (inside 0 r at).0)
