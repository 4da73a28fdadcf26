-- A call through a handle.
use Rattle.std.proofs.Common.{◌≡◌, ℕ, Bool, false, Option, Some, None, refl, sym, ap, inl, inr, ◌∙◌, subst, is_some}
use Rattle.std.proofs.lemmas.Bool.{false≢true}
use Rattle.std.proofs.lemmas.Option.{none-some}
use Rattle.btcheck_c.specs.declared.thing.Thing.{Thing}
use Rattle.btcheck_c.specs.declared.thing.Kind.{Kind}
use Rattle.btcheck_c.specs.declared.thing.Kind.TheVariants as kind
use Rattle.btcheck_c.specs.declared.held.Held.{Held}
use Rattle.btcheck_c.specs.Held.{OnBoth, WithHoldings}
use Rattle.btcheck_c.specs.Holds.{FillsHandle, IsHandleFilled, Through, ThroughBoth}
use Rattle.session.specs.Session.{SessionSeen}

-- the thing that was taken out of the handle is lent to the call, and goes back
pub through : (P : Kind → ℕ → Kind → Type 0) (o o' : Option Thing) (t lent : Thing) (k k' : Kind) (status : ℕ)
    → Some t ≡ o → lent ≡ t → lent.kind ≡ k → o' ≡ Some (record { kind = k' }) → P k status k' → Through P o status o'
through P o o' t lent k k' status is same kind is' p =
    subst (λ w. Through P w status o') is
    (record { kind = k' }, is', subst (λ x. P x status k') (sym kind ∙ ap (λ (s : Thing). s.kind) same) p)

-- a handle that is not full holds nothing
pub holds_nothing : (o : Option Thing) (full : Bool) → full ≡ is_some o → full ≡ false → o ≡ None
holds_nothing None full is empty = refl
holds_nothing (Some t) full is empty = absurd (false≢true (sym empty ∙ is))

-- a thing of this kind is in a handle that held nothing, or memory was refused for it
pub filled : (P : ℕ → Option Thing → Type 0) (k : Kind) (o o' : Option Thing) (status : ℕ) → o ≡ None → IsHandleFilled k o status o'
    → (o' ≡ Some (record { kind = k }) → P 0 o') → (o' ≡ None → P 2 o') → FillsHandle P o status o'
filled P k o o' status free (inl p) there refused =
    subst (λ w. FillsHandle P w status o') (sym free) (subst (λ n. P n o') (sym p.0) (there p.1))
filled P k o o' status free (inr p) there refused =
    subst (λ w. FillsHandle P w status o') (sym free) (subst (λ n. P n o') (sym p.0) (refused (p.1 ∙ free)))

-- nothing was made for a handle that holds nothing, and it stays so
pub unfilled : (P : ℕ → Option Thing → Type 0) (o : Option Thing) (status : ℕ) → o ≡ None → (o ≡ None → P status o) → FillsHandle P o status o
unfilled P None status free p = p refl
unfilled P (Some t) status free p = absurd (none-some t (sym free))

-- the first handle holds nothing, and the other one was not touched
pub both_none : (P : Kind → Kind → ℕ → Kind → Kind → Type 0) (o o' q : Option Thing) → None ≡ o → o' ≡ None → ThroughBoth P o q 1 o' q
both_none P o o' q none left = subst (λ w. ThroughBoth P w q 1 o' q) none (refl, (left, refl))

-- a call on a session, and on holdings of another handle
pub with_holdings : (P : SessionSeen → Held → ℕ → SessionSeen → Held → Type 0) (S S' : SessionSeen) (q q' : Option Thing) (u lent : Thing) (h h' : Held)
    (status : ℕ) → Some u ≡ q → lent ≡ u → lent.kind ≡ kind.Holdings h → q' ≡ Some (record { kind = kind.Holdings h' }) → P S h status S' h'
    → WithHoldings P S q status S' q'
with_holdings P S S' q q' u lent h h' status is same of_kind is' p =
    subst (λ w. WithHoldings P S w status S' q') is (
      record { kind = kind.Holdings h' },
      (
        is',
        subst (λ x. OnBoth P (kind.Session S) x status (kind.Session S') (kind.Holdings h')) (sym of_kind ∙ ap (λ (t : Thing). t.kind) same)
            (S', (h', (refl, (refl, p)))),
      ),
    )

-- so both things that were lent go back
pub through_both : (P : SessionSeen → Held → ℕ → SessionSeen → Held → Type 0) (o o' q q' : Option Thing) (t lent : Thing) (S S' : SessionSeen) (status : ℕ)
    → Some t ≡ o → lent ≡ t → lent.kind ≡ kind.Session S → o' ≡ Some (record { kind = kind.Session S' }) → WithHoldings P S q status S' q'
    → ThroughBoth (OnBoth P) o q status o' q'
through_both P o o' None q' t lent S S' status is same of_kind is' (one, (unchanged, none)) =
    let back : kind.Session S' ≡ t.kind = ap kind.Session unchanged ∙ sym of_kind ∙ ap (λ (s : Thing). s.kind) same in
    let thing : Kind → Thing = λ k. record { kind = k } in
    subst (λ w. ThroughBoth (OnBoth P) w None status o' q') is (one, (is' ∙ ap (λ k. Some (thing k)) back, none))
through_both P o o' (Some u) q' t lent S S' status is same of_kind is' (u', (there, on)) =
    subst (λ w. ThroughBoth (OnBoth P) w (Some u) status o' q') is (
      record { kind = kind.Session S' },
      (
        u',
        (
          is',
          (
            there,
            subst (λ x. OnBoth P x u.kind status (kind.Session S') u'.kind) (sym of_kind ∙ ap (λ (s : Thing). s.kind) same) on,
          ),
        ),
      ),
    )
