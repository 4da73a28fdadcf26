-- The room that lists and dictionaries take beside what they hold, while these come one by one.
use Rattle.std.proofs.Common.{◌≡◌, ℕ, true, false, ◌&&◌, Bool, List, [], ◌∷◌, ◌++◌, map, ◌⊎◌, inl, inr, refl, ◌∙◌, rules}
use Rattle.std.specs.Borrow.{Bor}
use Rattle.std.specs.Cmp.Derive.{both_true}
use Rattle.benc.specs.Thrift.{all_true, is_thrifty, pair_is_thrifty}
use Rattle.benc.specs.declared.value.Value.{Value, the_lemmas}

pub thrifty_pair : (k : Bor (List ℕ)) (v : Value) → is_thrifty v ≡ true → pair_is_thrifty (record { key = k; value = v }) ≡ true
thrifty_pair k v h = is_pair k v ∙ h
  where
    is_pair : (k : Bor (List ℕ)) (v : Value) → pair_is_thrifty (record { key = k; value = v }) ≡ is_thrifty v
    is_pair k v = search (rules, the_lemmas)

both_parts : (a b : Bool) → (a && b) ≡ true → (a ≡ true) × (b ≡ true)
both_parts true b e = (refl, e)
both_parts false b e = absurd cc

-- all are true still, whether one more came or was lost
pub all_more : {A : Type 0} (f : A → Bool) (xs ys : List A) (x : A) → all_true (map f xs) ≡ true → f x ≡ true → (ys ≡ xs ++ x ∷ []) ⊎ (ys ≡ xs)
    → all_true (map f ys) ≡ true
all_more f xs ys x all h (inr same) = rw same all
all_more {A} f xs ys x all h (inl more) = rw more (one_more xs all)
  where
    one_more : (zs : List A) → all_true (map f zs) ≡ true → all_true (map f (zs ++ x ∷ [])) ≡ true
    one_more [] e = both_true h refl
    one_more (z ∷ zs) e = let p = both_parts (f z) (all_true (map f zs)) e in both_true p.0 (one_more zs p.1)
