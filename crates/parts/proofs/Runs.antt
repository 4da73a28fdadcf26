-- The runs of pieces that are not good, as far as they were found.
use Rattle.std.proofs.Common.{◌≡◌, ◌⊎◌, inl, inr, ℕ, ◌+◌, ◌-◌, ◌<◌, ◌≤◌, List, [], ◌∷◌, ◌++◌, length}
use Rattle.std.proofs.Common.{slice_get, Some, refl, ap, ◌∙◌, subst, arith}
use Rattle.std.specs.Prelude.{◌↔◌}
use Rattle.std.proofs.lemmas.Bool.{cases_lt}
use Rattle.std.proofs.lemmas.List.{map-append}
use Rattle.std.proofs.lemmas.Option.{none-some, slice_get_within}
use Rattle.chains.proofs.Cases.{item_stays, pushed_at, pushed_last}
use Rattle.lines.specs.Rows.{Spelling, spell}
use Rattle.opening.specs.Description.{Description, FileEntry}
use Rattle.folders.proofs.SentLines.{spelled_push}
use Rattle.parts.specs.Runs.{AreBadRuns, IsBadRun, Run, run_row, runs_rows}

-- the lines of runs with one more
pub text_push : (spelled : Spelling) (t : Description) (f : FileEntry) (rs : List Run) (r : Run)
    → spell spelled (runs_rows t f (rs ++ r ∷ [])) ≡ spell spelled (runs_rows t f rs) ++ spelled (run_row t f r)
text_push spelled t f rs r =
    ap (spell spelled) (map-append (run_row t f) rs (r ∷ [])) ∙ spelled_push spelled (runs_rows t f rs) (run_row t f r)

-- ---- runs so far

-- of this many pieces those from `first` up to `end` are the first run from one piece on that are not good
pub record IsNextRun (IsGood : ℕ → Type 0) (at count first end : ℕ) : Type 0 where
  pub low : at ≤ first
  pub some : first < end
  pub within : end ≤ count
  pub before : (k : ℕ) → at ≤ k → k < first → IsGood k
  pub bad : (k : ℕ) → first ≤ k → k < end → IsGood k → ⊥
  pub ends : end < count → IsGood end

-- these are the runs before one piece: the one from which on they are looked for, or the end of a run
pub record RunsUpTo (IsGood : ℕ → Type 0) (count at : ℕ) (runs : List Run) : Type 0 where
  pub inside : at ≤ count
  pub done : AreBadRuns count at IsGood runs
  pub below : (i : ℕ) (r : Run) → slice_get runs i ≡ Some r → r.last < at
  pub edge : at < count → IsGood at ⊎ ((k : ℕ) → k + 1 ≡ at → IsGood k)

-- there is none before pieces that are good
pub no_runs : (IsGood : ℕ → Type 0) (count at : ℕ) → at ≤ count → ((k : ℕ) → k < at → IsGood k) → RunsUpTo IsGood count at []
no_runs IsGood count at inside good = record {
  inside = inside;
  done = record {
    each = λ i r is. absurd (none-some r is);
    ascend = λ i j a b lt is. absurd (none-some a is);
    all = λ k lt bad. absurd (bad (good k lt));
  };
  below = λ i r is. absurd (none-some r is);
  edge = λ more. inr (λ k is. good k (omega (arith, is)));
}

-- the next run
pub one_run : (IsGood : ℕ → Type 0) (count at first end : ℕ) (runs : List Run) → IsNextRun IsGood at count first end → RunsUpTo IsGood count at runs
    → RunsUpTo IsGood count end (runs ++ record { first = first; last = end - 1 } ∷ [])
one_run IsGood count at first end runs run so_far =
    let x : Run = record { first = first; last = end - 1 } in
    let next : end ≡ end - 1 + 1 = omega (arith, run.some) in
    let is_run : IsBadRun count IsGood x = record {
      order = omega (arith, run.some);
      inside = omega (arith, run.some, run.within);
      bad = λ k low high good. run.bad k low (omega (arith, high, run.some)) good;
      good_before = λ k is. elim (cases_lt k at) [
        | inr after ↦ run.before k after (omega (arith, is))
        | inl before ↦
            let same : at ≡ first = omega (arith, before, is, run.low) in
            elim (so_far.edge (omega (arith, same, run.some, run.within))) [
              | inl good ↦ absurd (run.bad first (omega arith) (omega (arith, run.some)) (subst IsGood same good))
              | inr earlier ↦ earlier k (omega (arith, is, same))
            ]
      ];
      good_after = λ more. subst IsGood next (run.ends (omega (arith, more, run.some)));
    } in
    record {
      inside = run.within;
      done = record {
        each = λ i r is. elim (pushed_at runs x r i is) [
          | inl old ↦ let e = so_far.done.each i r old in (e.0, omega (arith, e.1, run.low, run.some))
          | inr new ↦ subst (λ (s : Run). IsBadRun count IsGood s × (s.first < end)) new.1 (is_run, run.some)
        ];
        ascend = λ i j a b less ai bj. elim (pushed_at runs x b j bj) [
          | inl old_b ↦ elim (pushed_at runs x a i ai) [
            | inl old_a ↦ so_far.done.ascend i j a b less old_a old_b
            | inr new_a ↦ absurd (omega (arith, less, new_a.0, slice_get_within runs j b old_b))
          ]
          | inr new_b ↦ elim (pushed_at runs x a i ai) [
            | inl old_a ↦ subst (λ (s : Run). a.last < s.first) new_b.1 (omega (arith, so_far.below i a old_a, run.low))
            | inr new_a ↦ absurd (omega (arith, less, new_a.0, new_b.0))
          ]
        ];
        all = λ k lt bad. elim (cases_lt k at) [
          | inl before ↦ let o = so_far.done.all k before bad in (o.0, o.1, item_stays runs (x ∷ []) o.0 o.1 o.2, o.3, o.4)
          | inr after ↦ elim (cases_lt k first) [
            | inl set ↦ absurd (bad (run.before k after set))
            | inr within ↦ (length runs, x, pushed_last runs x (length runs) refl, within, omega (arith, lt))
          ]
        ];
      };
      below = λ i r is. elim (pushed_at runs x r i is) [
        | inl old ↦ omega (arith, so_far.below i r old, run.low, run.some)
        | inr new ↦ subst (λ (s : Run). s.last < end) new.1 (omega (arith, run.some))
      ];
      edge = λ more. inl (run.ends more);
    }

-- there is no further run
pub all_runs : (IsGood : ℕ → Type 0) (count at : ℕ) (runs : List Run) → ((k : ℕ) → at ≤ k → k < count → IsGood k) → RunsUpTo IsGood count at runs
    → AreBadRuns count count IsGood runs
all_runs IsGood count at runs good so_far = record {
  each = λ i r is. let e = so_far.done.each i r is in (e.0, omega (arith, e.1, so_far.inside));
  ascend = so_far.done.ascend;
  all = λ k lt bad. elim (cases_lt k at) [
    | inl before ↦ so_far.done.all k before bad
    | inr after ↦ absurd (bad (good k after lt))
  ];
}

-- ---- the runs of a file

-- runs by one test are those by another that tells the same
pub same_runs : (count to : ℕ) (P Q : ℕ → Type 0) (runs : List Run) → to ≤ count → ((k : ℕ) → k < count → P k ↔ Q k) → AreBadRuns count to P runs
    → AreBadRuns count to Q runs
same_runs count to P Q runs le same are = record {
  each = λ i r is.
      let e = are.each i r is in
      let b = e.0 in (
        record {
          order = b.order;
          inside = b.inside;
          bad = λ k low high good. b.bad k low high ((same k (omega (arith, high, b.inside))).1 good);
          good_before = λ k before. (same k (omega (arith, before, b.order, b.inside))).0 (b.good_before k before);
          good_after = λ more. (same (r.last + 1) more).0 (b.good_after more);
        },
        e.1,
      );
  ascend = are.ascend;
  all = λ k lt bad. are.all k lt (λ good. bad ((same k (omega (arith, lt, le))).0 good));
}
