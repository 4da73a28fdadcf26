-- Pages that hold nothing, made one after the other, each of them noted as fresh.
use Rattle.std.specs.Prelude.{◌≡◌, ◌⊎◌, ℕ, ◌+◌, List, [], ◌∷◌, ◌++◌, None, true}
use Rattle.node_maps.specs.Pages.{Numbered, AreAlike, IsChanged, is_spare}

-- one page that holds nothing was made and noted, as the last one
pub record IsMade (n : ℕ) (old : Numbered) (fresh : List ℕ) (count : ℕ) (new : Numbered)
    (fresh' : List ℕ) (count' : ℕ) : Type 0 where
  pub absent : old n ≡ None
  pub changed : IsChanged n (new n) old new
  pub spare : is_spare (new n) ≡ true
  pub noted : fresh' ≡ fresh ++ n ∷ []
  pub counted : count' ≡ count + 1

-- nothing was made
pub record IsSame (old : Numbered) (fresh : List ℕ) (count : ℕ) (new : Numbered)
    (fresh' : List ℕ) (count' : ℕ) : Type 0 where
  pub alike : AreAlike old new
  pub noted : fresh' ≡ fresh
  pub counted : count' ≡ count

-- pages of these numbers were made, the last one first in the list
abbrev pub AreMade : Numbered → List ℕ → ℕ → List ℕ → Numbered → List ℕ → ℕ → Type 0
AreMade old fresh count [] new fresh' count' = IsSame old fresh count new fresh' count'
AreMade old fresh count (n ∷ made) new fresh' count' =
    (mid : Numbered) × (f : List ℕ) × (c : ℕ) × AreMade old fresh count made mid f c
    × IsMade n mid f c new fresh' count'

-- pages were made
abbrev pub IsGrown : Numbered → List ℕ → ℕ → Numbered → List ℕ → ℕ → Type 0
IsGrown old fresh count new fresh' count' =
    (made : List ℕ) × AreMade old fresh count made new fresh' count'

-- one page was made, or nothing
abbrev pub IsGrownByOne : Numbered → List ℕ → ℕ → Numbered → List ℕ → ℕ → Type 0
IsGrownByOne old fresh count new fresh' count' =
    IsSame old fresh count new fresh' count'
    ⊎ ((n : ℕ) × IsMade n old fresh count new fresh' count')
