-- Pages that were made are given back one after the other, the last one first.
use Rattle.std.proofs.Common.{◌≡◌, ◌≢◌, ◌⊎◌, ℕ, suc, ◌+◌, ◌<◌, ◌≤◌, true, cond, eqb, List, [], ◌∷◌, ◌++◌, length, Some}
use Rattle.std.proofs.Common.{None, inl, inr, refl, sym, ap, ap₂, ◌∙◌}
use Rattle.std.proofs.Common.{subst, arith}
use Rattle.std.proofs.lemmas.List.{length_push}
use Rattle.std.proofs.lemmas.Bool.{cases_eq, cond-true, cond-false, eq-eqb, ne_eqb}
use Rattle.node_maps.specs.Cell.{is_blank}
use Rattle.node_maps.specs.declared.page.Page.{Page}
use Rattle.node_maps.specs.Pages.{Numbered, AreAlike, IsChanged, is_spare}
use Rattle.node_maps.proofs.Pages.{AddsBlank, changed_here, changed-self}
use Rattle.node_maps.specs.Growth.{AreMade, IsGrown, IsGrownByOne}

rest : List ℕ → List ℕ
rest [] = []
rest (x ∷ xs) = xs

first : List ℕ → ℕ
first [] = 0
first (x ∷ xs) = x

-- two lists with one number more at the end
push_same : (xs ys : List ℕ) (a b : ℕ) → xs ++ a ∷ [] ≡ ys ++ b ∷ [] → (xs ≡ ys) × (a ≡ b)
unfolding rest first
push_same [] [] a b e = (refl, ap first e)
push_same [] (y ∷ ys) a b e = absurd (let long : 1 ≡ suc (length (ys ++ b ∷ [])) = ap length e in omega (arith, long, length_push ys b))
push_same (x ∷ xs) [] a b e = absurd (let long : suc (length (xs ++ a ∷ [])) ≡ 1 = ap length e in omega (arith, long, length_push xs a))
push_same (x ∷ xs) (y ∷ ys) a b e = let r = push_same xs ys a b (ap rest e) in (ap₂ ◌∷◌ (ap first e) r.0, r.1)

-- the same pages under another name
made-alike : (old : Numbered) (fresh : List ℕ) (c : ℕ) (made : List ℕ) (new g : Numbered) (f' : List ℕ) (c' : ℕ) → AreMade old fresh c made new f' c'
    → AreAlike new g → AreMade old fresh c made g f' c'
made-alike old fresh c [] new g f' c' is alike = record { alike = λ n. alike n ∙ is.alike n; noted = is.noted; counted = is.counted }
made-alike old fresh c (n ∷ made) new g f' c' (mid, f, d, are, is) alike = (
  mid,
  f,
  d,
  are,
  record {
    absent = is.absent;
    changed = λ r. alike r ∙ is.changed r ∙ ap (λ x. cond (eqb n r) x (mid r)) (sym (alike n));
    spare = ap is_spare (alike n) ∙ is.spare;
    noted = is.noted;
    counted = is.counted;
  },
)

-- a page that holds nothing was made and noted
pub added-grown : {f g : Numbered} {q : ℕ} {p : Page} → AddsBlank f g q p → (fresh : List ℕ) (count : ℕ) (noted : List ℕ) → noted ≡ fresh ++ q ∷ []
    → IsGrownByOne f fresh count g noted (count + 1)
added-grown {f} {g} {q} {p} x fresh count noted more = inr (
  q,
  record {
    absent = x.none;
    changed = changed-self q (Some p) f g x.changed;
    spare = ap is_spare (changed_here f g q (Some p) x.changed) ∙ ap is_blank x.blank;
    noted = more;
    counted = refl;
  },
)

module _ (base : Numbered) (fresh : List ℕ) (count : ℕ) where
  -- one page more, or none
  pub grown-one : (mid : Numbered) (f : List ℕ) (c : ℕ) (new : Numbered) (f' : List ℕ) (c' : ℕ) → IsGrown base fresh count mid f c
      → IsGrownByOne mid f c new f' c' → IsGrown base fresh count new f' c'
  grown-one mid f c new f' c' (made, are) (inl same) = (
    made,
    subst (λ k. AreMade base fresh count made new f' k) (sym same.counted) (subst (λ k. AreMade base fresh count made new k c) (sym same.noted)
        (made-alike base fresh count made mid new f c are same.alike)),
  )
  grown-one mid f c new f' c' (made, are) (inr (n, is)) = (n ∷ made, (mid, f, c, are, is))

  -- all of them are gone when no more are noted than at first
  pub grown-gone : (new : Numbered) (f' : List ℕ) (c' : ℕ) → IsGrown base fresh count new f' c' → length f' ≤ length fresh → AreAlike base new × (c' ≡ count)
  grown-gone new f' c' (made, are) few = by_list made are
    where
      by_list : (made : List ℕ) → AreMade base fresh count made new f' c' → AreAlike base new × (c' ≡ count)
      by_list [] is = (is.alike, is.counted)
      by_list (n ∷ made) (mid, f, d, are, is) =
          absurd (omega (arith, few, at_least made mid f d are, ap length is.noted, length_push f n))
        where
          at_least : (made : List ℕ) (mid : Numbered) (f : List ℕ) (d : ℕ) → AreMade base fresh count made mid f d → length fresh ≤ length f
          at_least [] mid f d is = let e : length f ≡ length fresh = ap length is.noted in omega (arith, e)
          at_least (n ∷ made) mid f d (mid', f', d', are, is) = omega (arith, at_least made mid' f' d' are, ap length is.noted, length_push f' n)

  module _ (new : Numbered) (f' left : List ℕ) (c' q : ℕ) (grown : IsGrown base fresh count new f' c') (more : length fresh < length f') (popped : f' ≡ left
      ++ q ∷ []) where
    -- the last one holds nothing
    pub last-spare : is_spare (new q) ≡ true
    last-spare = by_list grown.0 grown.1
      where
        by_list : (made : List ℕ) → AreMade base fresh count made new f' c' → is_spare (new q) ≡ true
        by_list [] is = absurd (omega (arith, more, ap length is.noted))
        by_list (n ∷ made) (mid, f, d, are, is) = ap (λ k. is_spare (new k)) (sym (push_same f left n q (sym is.noted ∙ popped)).1) ∙ is.spare

    -- and once it is given back, the others are left
    pub last-gone : (g : Numbered) (c : ℕ) → IsChanged q None new g → c' ≡ c + 1 → IsGrown base fresh count g left c
    last-gone g c gone less = by_list grown.0 grown.1
      where
        by_list : (made : List ℕ) → AreMade base fresh count made new f' c' → IsGrown base fresh count g left c
        by_list [] is = absurd (omega (arith, more, ap length is.noted))
        by_list (n ∷ made) (mid, f, d, are, is) =
            let same = push_same f left n q (sym is.noted ∙ popped) in
            let d_is : d ≡ c = omega (arith, less, is.counted) in
            let alike : AreAlike mid g = λ r. gone r ∙ by_number n r same.1 mid is.absent is.changed (cases_eq q r) in (
              made,
              subst (λ k. AreMade base fresh count made g left k) d_is (subst (λ k. AreMade base fresh count made g k d) same.0
                  (made-alike base fresh count made mid g f d are alike)),
            )
          where
            by_number : (n r : ℕ) → n ≡ q → (mid : Numbered) → mid n ≡ None → IsChanged n (new n) mid new → (q ≡ r) ⊎ (q ≢ r)
                → cond (eqb q r) None (new r) ≡ mid r
            by_number n r same mid absent changed (inl here) = cond-true (eqb q r) None (new r) (eq-eqb q r here) ∙ sym absent ∙ ap mid (same ∙ here)
            by_number n r same mid absent changed (inr other) =
                cond-false (eqb q r) None (new r) (ne_eqb q r other) ∙ changed r ∙ cond-false (eqb n r) (new n) (mid r) (ne_eqb n r (λ e. other (sym same ∙ e)))
