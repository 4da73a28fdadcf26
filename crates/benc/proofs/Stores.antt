-- What a store refused, in one step after another.
use Rattle.std.proofs.Common.{◌≡◌, ℕ, List, [], ◌∷◌, ◌++◌, map, inl, inr, sym, ap, ap₂, ◌∙◌, refl, subst}
use Rattle.std.specs.Prelude.{IfSome}
use Rattle.std.specs.Option.{option_copied}
use Rattle.benc.specs.Storing.{KeepsAll, Refused}
use Rattle.benc.specs.declared.store.Store.{Store}

pub keeps_before : (old new : Store) (Fact : List ℕ → Type 0) → Refused old new Fact → KeepsAll new → KeepsAll old
keeps_before old new Fact (inl same) kept = sym same ∙ kept
keeps_before old new Fact (inr first) kept = first.0

pub refused_more : (a b : Store) (P Q : List ℕ → Type 0) → Refused a b P → ((s : List ℕ) → P s → Q s) → Refused a b Q
refused_more a b P Q (inl same) f = inl same
refused_more a b P Q (inr (kept, (start, is, fact))) f = inr (kept, (start, is, f start fact))

pub refused_then : (a b c : Store) (P Q : List ℕ → Type 0) → Refused a b P → Refused b c Q → ((s : List ℕ) → Q s → P s) → Refused a c P
refused_then a b c P Q (inl same) (inl still) f = inl (still ∙ same)
refused_then a b c P Q (inl same) (inr (kept, (start, is, fact))) f = inr (sym same ∙ kept, (start, is, f start fact))
refused_then a b c P Q (inr (kept, (start, is, fact))) (inl still) f = inr (kept, (start, still ∙ is, fact))
refused_then a b c P Q (inr (kept, (start, is, fact))) (inr later) f = absurd cc

-- what was kept, where one comes at the end
pub kept_push : {A B : Type 0} (f : A → B) (xs ys : List A) (x : A) (vs : List B) (v : B) → vs ≡ map f xs → v ≡ f x → ys ≡ xs ++ x ∷ []
    → vs ++ v ∷ [] ≡ map f ys
kept_push {A} {B} f xs ys x vs v e d p = ap₂ (λ us u. us ++ u ∷ []) e d ∙ map_push xs ∙ ap (map f) (sym p)
  where
    map_push : (zs : List A) → map f zs ++ f x ∷ [] ≡ map f (zs ++ x ∷ [])
    map_push [] = refl
    map_push (z ∷ zs) = ap (λ us. f z ∷ us) (map_push zs)

-- what is refused from a store that refused nothing
pub refused_from : (old new : Store) (Fact : List ℕ → Type 0) → KeepsAll old → Refused old new Fact → IfSome (option_copied new.refused) Fact
refused_from old new Fact kept (inl same) = subst (λ o. IfSome o Fact) (sym (same ∙ kept)) tt
refused_from old new Fact kept (inr (before, (start, is, fact))) = subst (λ o. IfSome o Fact) (sym is) fact
