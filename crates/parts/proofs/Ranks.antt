-- The worse of two verdicts, and the worst of one more.
use Rattle.std.proofs.Common.{◌≡◌, ◌⊎◌, inl, inr, ℕ, min, List, [], ◌∷◌, ◌++◌, length, refl, ap, sym, ◌∙◌, subst, arith}
use Rattle.chains.proofs.Cases.{item_stays, pushed_at, pushed_last}
use Rattle.folders.specs.declared.report.FileVerdict.{FileVerdict}
use Rattle.folders.specs.declared.report.FileVerdict.TheVariants as file
use Rattle.folders.specs.declared.report.V1Verdict.{V1Verdict}
use Rattle.folders.specs.declared.report.V1Verdict.TheVariants as version1
use Rattle.parts.specs.Joins.{IsWorst, NoWorse, NoWorseV1}
use Rattle.parts.specs.Worse.{worse, worse_v1}

-- one of two verdicts, and the other is no worse
abbrev pub IsWorse : {V : Type 0} → (V → V → Type 0) → V → V → V → Type 0
IsWorse NoWorse v w worst = ((worst ≡ v) × NoWorse w v) ⊎ ((worst ≡ w) × NoWorse v w)

one_of : (p q : ℕ) → (min p q ≡ p) ⊎ (min p q ≡ q)
one_of p q = grind arith

-- ---- verdicts on files

pub no_worse_same : (v : FileVerdict) → NoWorse v v
no_worse_same file.Good = tt
no_worse_same (file.Bad p) = omega arith
no_worse_same file.WrongLength = tt
no_worse_same file.Unreadable = tt
no_worse_same file.Missing = tt

pub worse_is : (v w : FileVerdict) → IsWorse NoWorse v w (worse v w)
worse_is file.Good w = inr (refl, tt)
worse_is (file.Bad p) file.Good = inl (refl, tt)
worse_is (file.Bad p) (file.Bad q) = elim (one_of p q) [
  | inl e ↦ inl (ap file.Bad e, omega (arith, e))
  | inr e ↦ inr (ap file.Bad e, omega (arith, e))
]
worse_is (file.Bad p) file.WrongLength = inr (refl, tt)
worse_is (file.Bad p) file.Unreadable = inr (refl, tt)
worse_is (file.Bad p) file.Missing = inr (refl, tt)
worse_is file.WrongLength file.Good = inl (refl, tt)
worse_is file.WrongLength (file.Bad q) = inl (refl, tt)
worse_is file.WrongLength file.WrongLength = inl (refl, tt)
worse_is file.WrongLength file.Unreadable = inr (refl, tt)
worse_is file.WrongLength file.Missing = inr (refl, tt)
worse_is file.Unreadable file.Good = inl (refl, tt)
worse_is file.Unreadable (file.Bad q) = inl (refl, tt)
worse_is file.Unreadable file.WrongLength = inl (refl, tt)
worse_is file.Unreadable file.Unreadable = inl (refl, tt)
worse_is file.Unreadable file.Missing = inr (refl, tt)
worse_is file.Missing file.Good = inl (refl, tt)
worse_is file.Missing (file.Bad q) = inl (refl, tt)
worse_is file.Missing file.WrongLength = inl (refl, tt)
worse_is file.Missing file.Unreadable = inl (refl, tt)
worse_is file.Missing file.Missing = inl (refl, tt)

pub still_no_worse : (u v w : FileVerdict) → NoWorse u v → NoWorse v w → NoWorse u w
still_no_worse file.Good v w h k = tt
still_no_worse (file.Bad p) file.Good w h k = absurd h
still_no_worse (file.Bad p) (file.Bad q) file.Good h k = absurd k
still_no_worse (file.Bad p) (file.Bad q) (file.Bad r) h k = omega (arith, h, k)
still_no_worse (file.Bad p) (file.Bad q) file.WrongLength h k = tt
still_no_worse (file.Bad p) (file.Bad q) file.Unreadable h k = tt
still_no_worse (file.Bad p) (file.Bad q) file.Missing h k = tt
still_no_worse (file.Bad p) file.WrongLength file.Good h k = absurd k
still_no_worse (file.Bad p) file.WrongLength (file.Bad r) h k = absurd k
still_no_worse (file.Bad p) file.WrongLength file.WrongLength h k = tt
still_no_worse (file.Bad p) file.WrongLength file.Unreadable h k = tt
still_no_worse (file.Bad p) file.WrongLength file.Missing h k = tt
still_no_worse (file.Bad p) file.Unreadable file.Good h k = absurd k
still_no_worse (file.Bad p) file.Unreadable (file.Bad r) h k = absurd k
still_no_worse (file.Bad p) file.Unreadable file.WrongLength h k = absurd k
still_no_worse (file.Bad p) file.Unreadable file.Unreadable h k = tt
still_no_worse (file.Bad p) file.Unreadable file.Missing h k = tt
still_no_worse (file.Bad p) file.Missing file.Good h k = absurd k
still_no_worse (file.Bad p) file.Missing (file.Bad r) h k = absurd k
still_no_worse (file.Bad p) file.Missing file.WrongLength h k = absurd k
still_no_worse (file.Bad p) file.Missing file.Unreadable h k = absurd k
still_no_worse (file.Bad p) file.Missing file.Missing h k = tt
still_no_worse file.WrongLength file.Good w h k = absurd h
still_no_worse file.WrongLength (file.Bad q) w h k = absurd h
still_no_worse file.WrongLength file.WrongLength file.Good h k = absurd k
still_no_worse file.WrongLength file.WrongLength (file.Bad r) h k = absurd k
still_no_worse file.WrongLength file.WrongLength file.WrongLength h k = tt
still_no_worse file.WrongLength file.WrongLength file.Unreadable h k = tt
still_no_worse file.WrongLength file.WrongLength file.Missing h k = tt
still_no_worse file.WrongLength file.Unreadable file.Good h k = absurd k
still_no_worse file.WrongLength file.Unreadable (file.Bad r) h k = absurd k
still_no_worse file.WrongLength file.Unreadable file.WrongLength h k = absurd k
still_no_worse file.WrongLength file.Unreadable file.Unreadable h k = tt
still_no_worse file.WrongLength file.Unreadable file.Missing h k = tt
still_no_worse file.WrongLength file.Missing file.Good h k = absurd k
still_no_worse file.WrongLength file.Missing (file.Bad r) h k = absurd k
still_no_worse file.WrongLength file.Missing file.WrongLength h k = absurd k
still_no_worse file.WrongLength file.Missing file.Unreadable h k = absurd k
still_no_worse file.WrongLength file.Missing file.Missing h k = tt
still_no_worse file.Unreadable file.Good w h k = absurd h
still_no_worse file.Unreadable (file.Bad q) w h k = absurd h
still_no_worse file.Unreadable file.WrongLength w h k = absurd h
still_no_worse file.Unreadable file.Unreadable file.Good h k = absurd k
still_no_worse file.Unreadable file.Unreadable (file.Bad r) h k = absurd k
still_no_worse file.Unreadable file.Unreadable file.WrongLength h k = absurd k
still_no_worse file.Unreadable file.Unreadable file.Unreadable h k = tt
still_no_worse file.Unreadable file.Unreadable file.Missing h k = tt
still_no_worse file.Unreadable file.Missing file.Good h k = absurd k
still_no_worse file.Unreadable file.Missing (file.Bad r) h k = absurd k
still_no_worse file.Unreadable file.Missing file.WrongLength h k = absurd k
still_no_worse file.Unreadable file.Missing file.Unreadable h k = absurd k
still_no_worse file.Unreadable file.Missing file.Missing h k = tt
still_no_worse file.Missing file.Good w h k = absurd h
still_no_worse file.Missing (file.Bad q) w h k = absurd h
still_no_worse file.Missing file.WrongLength w h k = absurd h
still_no_worse file.Missing file.Unreadable w h k = absurd h
still_no_worse file.Missing file.Missing file.Good h k = absurd k
still_no_worse file.Missing file.Missing (file.Bad r) h k = absurd k
still_no_worse file.Missing file.Missing file.WrongLength h k = absurd k
still_no_worse file.Missing file.Missing file.Unreadable h k = absurd k
still_no_worse file.Missing file.Missing file.Missing h k = tt

-- ---- verdicts on version 1 pieces

pub no_worse_same_v1 : (v : V1Verdict) → NoWorseV1 v v
no_worse_same_v1 version1.Good = tt
no_worse_same_v1 (version1.Bad p) = omega arith
no_worse_same_v1 version1.NotChecked = tt

pub worse_is_v1 : (v w : V1Verdict) → IsWorse NoWorseV1 v w (worse_v1 v w)
worse_is_v1 version1.Good w = inr (refl, tt)
worse_is_v1 (version1.Bad p) version1.Good = inl (refl, tt)
worse_is_v1 (version1.Bad p) (version1.Bad q) = elim (one_of p q) [
  | inl e ↦ inl (ap version1.Bad e, omega (arith, e))
  | inr e ↦ inr (ap version1.Bad e, omega (arith, e))
]
worse_is_v1 (version1.Bad p) version1.NotChecked = inr (refl, tt)
worse_is_v1 version1.NotChecked version1.Good = inl (refl, tt)
worse_is_v1 version1.NotChecked (version1.Bad q) = inl (refl, tt)
worse_is_v1 version1.NotChecked version1.NotChecked = inl (refl, tt)

pub still_no_worse_v1 : (u v w : V1Verdict) → NoWorseV1 u v → NoWorseV1 v w → NoWorseV1 u w
still_no_worse_v1 version1.Good v w h k = tt
still_no_worse_v1 (version1.Bad p) version1.Good w h k = absurd h
still_no_worse_v1 (version1.Bad p) (version1.Bad q) version1.Good h k = absurd k
still_no_worse_v1 (version1.Bad p) (version1.Bad q) (version1.Bad r) h k = omega (arith, h, k)
still_no_worse_v1 (version1.Bad p) (version1.Bad q) version1.NotChecked h k = tt
still_no_worse_v1 (version1.Bad p) version1.NotChecked version1.Good h k = absurd k
still_no_worse_v1 (version1.Bad p) version1.NotChecked (version1.Bad r) h k = absurd k
still_no_worse_v1 (version1.Bad p) version1.NotChecked version1.NotChecked h k = tt
still_no_worse_v1 version1.NotChecked version1.Good w h k = absurd h
still_no_worse_v1 version1.NotChecked (version1.Bad q) w h k = absurd h
still_no_worse_v1 version1.NotChecked version1.NotChecked version1.Good h k = absurd k
still_no_worse_v1 version1.NotChecked version1.NotChecked (version1.Bad r) h k = absurd k
still_no_worse_v1 version1.NotChecked version1.NotChecked version1.NotChecked h k = tt

-- ---- one part more

-- the worst of one part more, for any order of verdicts
pub one_more_part : {A V : Type 0} (NoWorse : V → V → Type 0) (best : V) (worse : V → V → V) → ((v : V) → NoWorse v v)
    → ((v w : V) → IsWorse NoWorse v w (worse v w)) → ((u v w : V) → NoWorse u v → NoWorse v w → NoWorse u w)
    → (says : A → V) (parts : List A) (p : A) (w : V) → IsWorst NoWorse best says parts w → IsWorst NoWorse best says (parts ++ p ∷ []) (worse w (says p))
one_more_part NoWorse best worse same is still says parts p w so_far = record {
  no_worse = λ i q at. elim (pushed_at parts p q i at) [
    | inl before ↦ still (says q) w (worse w (says p)) (so_far.no_worse i q before) (elim (is w (says p)) [
      | inl old ↦ subst (NoWorse w) (sym old.0) (same w)
      | inr new ↦ subst (NoWorse w) (sym new.0) new.1
    ])
    | inr last ↦ subst (λ x. NoWorse (says x) (worse w (says p))) last.1 (elim (is w (says p)) [
      | inl old ↦ subst (NoWorse (says p)) (sym old.0) old.1
      | inr new ↦ subst (NoWorse (says p)) (sym new.0) (same (says p))
    ])
  ];
  one = elim (is w (says p)) [
    | inr new ↦ inr (length parts, p, pushed_last parts p (length parts) refl, sym new.0)
    | inl old ↦ elim so_far.one [
      | inl none ↦ inl (old.0 ∙ none)
      | inr some ↦ inr (some.0, some.1, item_stays parts (p ∷ []) some.0 some.1 some.2, some.3 ∙ sym old.0)
    ]
  ];
}
