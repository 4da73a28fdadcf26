-- Visits of claims, one after the other, and which claims are visited in all.
use Rattle.std.proofs.Common.{◌≡◌, ◌⊎◌, ℕ, ◌+◌, ◌≤◌, List, [], ◌∷◌, ◌++◌, length, Option, Some, None, inl, inr, refl, sym, ap, ◌∙◌, subst, arith}
use Rattle.std.specs.Option.{OnSome, IfNone}
use Rattle.std.proofs.lemmas.List.{length-append}
use Rattle.std.proofs.lemmas.List.Elements.{All-append, All-cons, All-nil}
use Rattle.std.proofs.lemmas.Option.{same_Some}
use Rattle.node_maps.specs.Digest.{Hash}
use Rattle.node_maps.specs.Places.{PartialTree}
use Rattle.partial_tree.specs.declared.message.found.Claim.{Claim}
use Rattle.partial_tree.specs.Evidence.{HasClaim}
use Rattle.partial_tree.specs.Visits.{AdmitsAll, StopsAtClaim, Visits, VisitsInTurn}

-- what no claim ends goes on
pub never-stopped : {A : Type 0} (o : Option A) (P Q : Type 0) → OnSome o P → IfNone o Q → (Q → ⊥) → P
never-stopped None P Q goes stops never = absurd (never stops)
never-stopped (Some x) P Q goes stops never = goes

pub where-none : {A : Type 0} (o : Option A) (P : Type 0) → P → IfNone o P
where-none None P p = p
where-none (Some x) P p = tt

has-left : (cs ds : List Claim) (l i : ℕ) (h : Hash) → HasClaim cs l i h → HasClaim (cs ++ ds) l i h
has-left [] ds l i h has = absurd has
has-left (c ∷ cs) ds l i h (inl here) = inl here
has-left (c ∷ cs) ds l i h (inr has) = inr (has-left cs ds l i h has)

has-right : (cs ds : List Claim) (l i : ℕ) (h : Hash) → HasClaim ds l i h → HasClaim (cs ++ ds) l i h
has-right [] ds l i h has = has
has-right (c ∷ cs) ds l i h has = inr (has-right cs ds l i h has)

module _ {V : Type 0} (Visit : V → Claim → V → Type 0) where
  run-append : (v : V) (cs ds : List Claim) (u w : V) → VisitsInTurn Visit v cs u → VisitsInTurn Visit u ds w → VisitsInTurn Visit v (cs ++ ds) w
  run-append v [] ds u w e run = subst (λ x. VisitsInTurn Visit x ds w) e run
  run-append v (c ∷ cs) ds u w (mid, step, rest) run = (mid, step, run-append mid cs ds u w rest run)

  -- what each visit keeps
  pub run-keeps : {A : Type 0} (f : V → A) → ((v : V) (c : Claim) (w : V) → Visit v c w → f w ≡ f v) → (v : V) (cs : List Claim) (w : V)
      → VisitsInTurn Visit v cs w → f w ≡ f v
  run-keeps f keeps v [] w e = ap f e
  run-keeps f keeps v (c ∷ cs) w (mid, step, run) = run-keeps f keeps mid cs w run ∙ keeps v c mid step

  -- what may be visited still may, and what ends the visits would have ended them before
  pub run-admits : (Admits : V → Claim → Type 0) → ((v w : V) (c d : Claim) → Visit v c w → Admits v d → Admits w d)
      → (v : V) (cs : List Claim) (w : V) (d : Claim) → VisitsInTurn Visit v cs w → Admits v d → Admits w d
  run-admits Admits after v [] w d e admits = subst (λ x. Admits x d) (sym e) admits
  run-admits Admits after v (c ∷ cs) w d (mid, step, run) admits = run-admits Admits after mid cs w d run (after v mid c d step admits)

  pub run-stops : (Stops : V → Claim → Type 0) → ((v w : V) (c d : Claim) → Visit v c w → Stops w d → Stops v d)
      → (v : V) (cs : List Claim) (w : V) (d : Claim) → VisitsInTurn Visit v cs w → Stops w d → Stops v d
  run-stops Stops before v [] w d e stops = subst (λ x. Stops x d) e stops
  run-stops Stops before v (c ∷ cs) w d (mid, step, run) stops = before v mid c d step (run-stops Stops before mid cs w d run stops)

  module _ (C : PartialTree) where
    pub visits-none : (There : ℕ → ℕ → Type 0) (most : ℕ) (v : V) → ((l i : ℕ) (h : Hash) → There l i → C l i ≡ Some h → ⊥)
        → Visits Visit C There most v v
    visits-none There most v none = record {
      claims = [];
      run = refl;
      sound = All-nil (λ (c : Claim). C c.layer c.index ≡ Some c.hash);
      complete = λ l i h there is. absurd (none l i h there is);
      few = omega arith;
    }

    pub visits-one : (There : ℕ → ℕ → Type 0) (v w : V) (c : Claim) → C c.layer c.index ≡ Some c.hash → Visit v c w
        → ((l i : ℕ) → There l i → (c.layer ≡ l) × (c.index ≡ i)) → Visits Visit C There 1 v w
    visits-one There v w c claim step at = record {
      claims = c ∷ [];
      run = (w, step, refl);
      sound = All-cons (λ (c : Claim). C c.layer c.index ≡ Some c.hash) c [] claim (All-nil (λ (c : Claim). C c.layer c.index ≡ Some c.hash));
      complete = λ l i h there is.
          let (same, same') = at l i there in
          inl (same, same', same_Some c.hash h (sym claim ∙ ap (λ k. C k c.index) same ∙ ap (C l) same' ∙ is));
      few = omega arith;
    }

    -- first some and then others, among them all that lie there
    pub visits-both : (First Second There : ℕ → ℕ → Type 0) (m n most : ℕ) (v u w : V) → Visits Visit C First m v u → Visits Visit C Second n u w
        → ((l i : ℕ) (h : Hash) → C l i ≡ Some h → There l i → First l i ⊎ Second l i) → m + n ≤ most → Visits Visit C There most v w
    visits-both First Second There m n most v u w a b either fits = record {
      claims = a.claims ++ b.claims;
      run = run-append v a.claims b.claims u w a.run b.run;
      sound = All-append (λ (c : Claim). C c.layer c.index ≡ Some c.hash) a.claims b.claims a.sound b.sound;
      complete = λ l i h there is. elim (either l i h is there) [
        | inl first ↦ has-left a.claims b.claims l i h (a.complete l i h first is)
        | inr second ↦ has-right a.claims b.claims l i h (b.complete l i h second is)
      ];
      few = omega (arith, length-append a.claims b.claims, a.few, b.few, fits);
    }

    pub visits-weaker : (First There : ℕ → ℕ → Type 0) (m most : ℕ) (v w : V) → Visits Visit C First m v w
        → ((l i : ℕ) (h : Hash) → C l i ≡ Some h → There l i → First l i) → m ≤ most → Visits Visit C There most v w
    visits-weaker First There m most v w a inside fits = record {
      claims = a.claims;
      run = a.run;
      sound = a.sound;
      complete = λ l i h there is. a.complete l i h (inside l i h is there) is;
      few = omega (arith, a.few, fits);
    }

    module _ (There : ℕ → ℕ → Type 0) (most : ℕ) (v w : V) (a : Visits Visit C There most v w) where
      pub all-admitted : (Admits : V → Claim → Type 0) → ((v w : V) (c d : Claim) → Visit v c w → Admits v d → Admits w d)
          → AdmitsAll Admits C v → AdmitsAll Admits C w
      all-admitted Admits after all c is = run-admits Admits after v a.claims w c a.run (all c is)

      pub stopped-before : (Stops : V → Claim → Type 0) → ((v w : V) (c d : Claim) → Visit v c w → Stops w d → Stops v d)
          → StopsAtClaim Stops C w → StopsAtClaim Stops C v
      stopped-before Stops before (c, is, stops) = (c, is, run-stops Stops before v a.claims w c a.run stops)
