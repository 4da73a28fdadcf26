-- Rising numbers, and items that stand beside them.
use Rattle.std.specs.Prelude.{◌≡◌, ℕ, ◌<◌, ◌≤◌, ◌==◌, if◌then◌else◌, List, [], ◌∷◌, length, slice_index_or, Option, Some, None}

-- each number is below those after it
abbrev pub AreNumbersRising : List ℕ → Type 0
AreNumbersRising ns =
    (i j : ℕ) → i < j → j < length ns → slice_index_or ns i 0 < slice_index_or ns j 0

-- the number stands at place i
pub record IsNumberAt (ns : List ℕ) (n i : ℕ) : Type 0 where
  pub in_range : i < length ns
  pub is_number : slice_index_or ns i 0 ≡ n

-- the number would go at place i
pub record IsGapFor (ns : List ℕ) (n i : ℕ) : Type 0 where
  pub in_range : i ≤ length ns
  pub below : (j : ℕ) → j < i → slice_index_or ns j 0 < n
  pub above : (j : ℕ) → i ≤ j → j < length ns → n < slice_index_or ns j 0

-- the item of a number, if there is one
abbrev pub page_numbered : {A : Type 0} → List ℕ → List A → ℕ → Option A
page_numbered [] xs q = None
page_numbered (n ∷ ns) [] q = None
page_numbered (n ∷ ns) (x ∷ xs) q = (if n == q then Some x else page_numbered ns xs q)
