-- Comparing the components of paths.
use Rattle.std.proofs.Common.{◌≡◌, ℕ, Bool, true, false, ◌&&◌, ◌||◌, List, [], ◌∷◌}
use Rattle.std.proofs.Common.{inl, inr, refl, sym, ap, ◌∙◌, arith, ◌⊎◌}
use Rattle.std.specs.Cmp.Lexicographic.{slice_cmp}
use Rattle.std.specs.Ordering.{nat_cmp, is_eq}
use Rattle.std.proofs.lemmas.Map.Text.{is_eq-slice_cmp}
use Rattle.std.specs.Str.{bytes_eq}
use Rattle.std.specs.declared.cmp.Ordering.{Ordering}
use Rattle.std.specs.declared.cmp.Ordering.TheVariants.{Less, Equal, Greater}
use Rattle.filetree.specs.FileTree.{is_nil}
use Rattle.filetree.proofs.Bytes.{equal_bytes, same_bytes}

-- ---- comparing components

pub is_equal : (o : Ordering) → is_eq o ≡ true → o ≡ Equal
is_equal Less e = cc
is_equal Equal e = refl
is_equal Greater e = cc

pub cmp_same : (k : List ℕ) → slice_cmp nat_cmp k k ≡ Equal
cmp_same k = is_equal (slice_cmp nat_cmp k k) (is_eq-slice_cmp k k ∙ equal_bytes k k refl)

pub cmp_equal : (k l : List ℕ) → slice_cmp nat_cmp k l ≡ Equal → k ≡ l
cmp_equal k l e = same_bytes k l (sym (is_eq-slice_cmp k l) ∙ ap is_eq e)

pub not_same : (k l : List ℕ) → slice_cmp nat_cmp k l ≡ Less → bytes_eq k l ≡ false
not_same k l less = sym (is_eq-slice_cmp k l) ∙ ap is_eq less

pub some_nil : (c : ℕ) (k : List ℕ) → is_nil (c ∷ k) ≡ false
some_nil c k = grind arith

pub nil_is : (k : List ℕ) → is_nil k ≡ true → k ≡ []
nil_is [] e = refl
nil_is (c ∷ k) e = let other : is_nil (c ∷ k) ≡ false = some_nil c k in cc

pub above_some : (k l : List ℕ) → slice_cmp nat_cmp k l ≡ Less → is_nil l ≡ false
above_some [] [] less = cc
above_some (c ∷ k) [] less = cc
above_some k (c ∷ l) less = some_nil c l

pub and_both : (a b : Bool) → a && b ≡ true → (a ≡ true) × (b ≡ true)
and_both true b e = (refl, e)
and_both false b e = cc

pub or_one : (a b : Bool) → a || b ≡ true → (a ≡ true) ⊎ (b ≡ true)
or_one true b e = inl refl
or_one false b e = inr e
