-- The laws of canonical bencoding (BEP 3): its spellings, and the faults of what is none.
use Rattle.std.specs.Prelude.{◌≡◌, ◌++◌, ◌⊎◌, List, ℕ}
use Rattle.benc.specs.declared.fault.FaultKind.{FaultKind}
use Rattle.benc.specs.Fails.{Fails}
use Rattle.benc.specs.Spelling.{Spells}
use Rattle.benc.specs.Text.{spelling, IsCanonical}
use Rattle.benc.specs.Value.{Bencode}

-- each canonical value has a spelling
abbrev pub CanonicalHasSpelling : Type 0
CanonicalHasSpelling = (v : Bencode) → IsCanonical v → Spells v (spelling v)

-- a canonical value has no other spelling, and what has a spelling is canonical
abbrev pub SpellingIsOfCanonical : Type 0
SpellingIsOfCanonical = (v : Bencode) (b : List ℕ) → Spells v b → IsCanonical v × (b ≡ spelling v)

-- each spelling is of one value, and none is a proper prefix of another
abbrev pub NoSpellingBeginsAnother : Type 0
NoSpellingBeginsAnother =
    (v w : Bencode) (a b x y : List ℕ) → Spells v a → Spells w b → a ++ x ≡ b ++ y
    → (v ≡ w) × (a ≡ b)

-- each input spells a value, or has a fault
abbrev pub SpellsOrFails : Type 0
SpellsOrFails =
    (b : List ℕ)
    → ((v : Bencode) × Spells v b) ⊎ ((kind : FaultKind) × (offset : ℕ) × Fails b kind offset)

-- what spells a value has no fault
abbrev pub SpellingHasNoFault : Type 0
SpellingHasNoFault =
    (b : List ℕ) (v : Bencode) (kind : FaultKind) (offset : ℕ) → Spells v b → ¬ Fails b kind offset

-- no input has two faults
abbrev pub FaultIsOne : Type 0
FaultIsOne =
    (b : List ℕ) (kind other : FaultKind) (offset place : ℕ) → Fails b kind offset
    → Fails b other place → (kind ≡ other) × (offset ≡ place)
