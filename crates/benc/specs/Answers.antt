-- What a decoder answers, by its input.
use Rattle.std.specs.Prelude.{◌≡◌, ◌≢◌, ℕ, List, ◌++◌, Result, MatchResult}
use Rattle.benc.specs.Fails.{Opens}
use Rattle.benc.specs.Spelling.{Spells}
use Rattle.benc.specs.Value.{Bencode}
use Rattle.benc.specs.declared.fault.Fault.{Fault}
use Rattle.benc.specs.declared.fault.FaultKind.{FaultKind}
use Rattle.benc.specs.declared.fault.FaultKind.TheVariants.{NoMemory}

-- unless memory ran out, the input is decoded, and this holds of the answer
abbrev pub UnlessNoMemory : {A : Type 0} → Result A Fault → (A → Type 0) → Type 0
UnlessNoMemory result P = MatchResult result P (λ fault. fault.kind ≡ NoMemory)

-- this fault is answered
abbrev pub AnswersFault : {A : Type 0} → Result A Fault → FaultKind → ℕ → Type 0
AnswersFault result kind offset =
    MatchResult result (λ _. ⊥) (λ f. (f.kind ≡ kind) × (f.offset ≡ offset))

-- unless memory ran out, this holds of the fault's kind and offset
abbrev pub IsFaultOf : (FaultKind → ℕ → Type 0) → Fault → Type 0
IsFaultOf Holds fault = fault.kind ≢ NoMemory → Holds fault.kind fault.offset

-- if memory ran out, a list or dictionary that has to grow begins at the fault's offset
abbrev pub IsAtGrowth : List ℕ → Fault → Type 0
IsAtGrowth input fault = fault.kind ≡ NoMemory → Opens input fault.offset

-- if memory ran out, the input spells a value
abbrev pub IsOfSpelling : List ℕ → Fault → Type 0
IsOfSpelling input fault = fault.kind ≡ NoMemory → (v : Bencode) × Spells v input

-- if memory ran out, a prefix of the input spells a value
abbrev pub IsOfFront : List ℕ → Fault → Type 0
IsOfFront input fault =
    fault.kind ≡ NoMemory
    → (v : Bencode) × (front rest : List ℕ) × (input ≡ front ++ rest) × Spells v front
