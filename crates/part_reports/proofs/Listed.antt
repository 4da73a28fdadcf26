-- The lines of some files, one part after another, and the worst of what they say.
use Rattle.std.proofs.Common.{◌≡◌, ℕ, zero, suc, ◌+◌, ◌≤◌, Bool, ◌&&◌, List, [], ◌∷◌, ◌++◌}
use Rattle.std.proofs.Common.{length, drop, replicate, slice_get, Some}
use Rattle.std.proofs.Common.{refl, sym, ap, ap₂, ◌∙◌, subst, append_assoc, arith}
use Rattle.std.specs.List.{list_all}
use Rattle.std.proofs.Math.Bool.{and-true}
use Rattle.std.proofs.lemmas.List.Folds.{list_all-append}
use Rattle.std.proofs.lemmas.Option.{none-some, same_Some}
use Rattle.opening.specs.Description.{Description, FileEntry}
use Rattle.folders.specs.Verdicts.{is_good, is_whole}
use Rattle.folders.specs.declared.report.FileVerdict.{FileVerdict}
use Rattle.folders.specs.declared.report.FileVerdict.TheVariants as file
use Rattle.parts.specs.Runs.{Run}
use Rattle.parts.specs.Worse.{worse}
use Rattle.parts.specs.declared.places.Places.{Places}
use Rattle.parts.specs.MarkedLines.{marked_rows, marked_place_rows}
use Rattle.lines.specs.Rows.{Row}

-- ---- lines

-- what is told of some files, and of those behind them
pub split_marked : (t : Description) (r : Places) (xs ys : List (FileVerdict × List Run)) (fs : List FileEntry) → length xs ≤ length fs
    → marked_place_rows t r (xs ++ ys) fs ≡ marked_place_rows t r xs fs ++ marked_place_rows t r ys (drop (length xs) fs)
split_marked t r [] ys fs within = refl
split_marked t r (x ∷ xs) ys [] within = absurd (omega (arith, within))
split_marked t r (x ∷ xs) ys (f ∷ fs) within =
    let one : List Row = marked_rows t r f x.0 x.1 in
    ap (λ l. one ++ l) (split_marked t r xs ys fs (omega (arith, within)))
    ∙ sym (append_assoc one (marked_place_rows t r xs fs) (marked_place_rows t r ys (drop (length xs) fs)))

-- a good file without runs
abbrev pub silent : FileVerdict × List Run
silent = (file.Good, [])

pub at_drop : {A : Type 0} (xs : List A) (k n : ℕ) (x : A) → slice_get (drop k xs) n ≡ Some x → slice_get xs (k + n) ≡ Some x
at_drop xs zero n x there = subst (λ m. slice_get xs m ≡ Some x) (let e : n ≡ 0 + n = omega arith in e) there
at_drop [] (suc k) n x there = absurd (none-some x there)
at_drop (y ∷ xs) (suc k) n x there =
    let next : suc (k + n) ≡ suc k + n = omega arith in
    subst (λ m. slice_get (y ∷ xs) m ≡ Some x) next (at_drop xs k n x there)

-- ---- the worst verdict

pub worse_good : (v : FileVerdict) → worse v file.Good ≡ v
worse_good file.Good = refl
worse_good v = refl

pub good_worse : (v w : FileVerdict) → is_good (worse v w) ≡ (is_good v && is_good w)
good_worse file.Unreadable file.Missing = refl
good_worse file.WrongLength file.Missing = refl
good_worse (file.Bad p) file.Good = refl
good_worse v w = refl

pub whole_worse : (v w : FileVerdict) → is_whole (worse v w) ≡ (is_whole v && is_whole w)
whole_worse file.Unreadable file.Missing = refl
whole_worse file.WrongLength file.Missing = refl
whole_worse (file.Bad p) file.Good = refl
whole_worse v w = refl

-- a test of all items, with one more
pub all_more : {A : Type 0} (p : A → Bool) (xs : List A) (x : A) → list_all p (xs ++ x ∷ []) ≡ (list_all p xs && p x)
all_more p xs x = list_all-append p xs (x ∷ []) ∙ ap (λ b. list_all p xs && b) (and-true (p x))

pub good_at : (n k : ℕ) (v : FileVerdict) → slice_get (replicate n file.Good) k ≡ Some v → v ≡ file.Good
good_at zero k v at = absurd (none-some v at)
good_at (suc n) zero v at = sym (same_Some file.Good v at)
good_at (suc n) (suc k) v at = good_at n k v at

-- lists of one length that have the same items are one
pub same_items : {A : Type 0} (xs ys : List A) → length xs ≡ length ys
    → ((n : ℕ) (x y : A) → slice_get xs n ≡ Some x → slice_get ys n ≡ Some y → x ≡ y) → xs ≡ ys
same_items [] [] len same = refl
same_items [] (y ∷ ys) len same = absurd (omega (arith, len))
same_items (x ∷ xs) [] len same = absurd (omega (arith, len))
same_items (x ∷ xs) (y ∷ ys) len same =
    ap₂ (λ z zs. z ∷ zs) (same 0 x y refl refl) (same_items xs ys (omega (arith, len)) (λ n a b at there. same (suc n) a b at there))
