-- An opened file, read to its end or to one byte past its length.
use Rattle.std.proofs.Common.{◌≡◌, ℕ, ◌≤◌, Bool, true, false, List, length}
use Rattle.std.proofs.Common.{Option, Some, None, ap, sym, ◌∙◌, subst, arith}
use Rattle.std.proofs.Common.{eqb, eq-eqb, eqb-true, not}
use Rattle.std.specs.Option.{option_eq}
use Rattle.std.proofs.lemmas.List.{length-append}
use Rattle.std.proofs.lemmas.Option.{same_Some}
use Rattle.std.specs.Io.KnownBytes.{Consumes, IsAtEnd}
use Rattle.benc.proofs.Known.{Consumes_all}
use Rattle.benc.specs.Device.{SourceSeen}
use Rattle.wire.specs.Reading.{Gave}
use Rattle.std.proofs.lemmas.Bool.{not-false}
use Rattle.folders.specs.TakeAll.{ReadAll, TookAll}

-- the known content is all that the source gave
pub all_given : (old new : SourceSeen) (bytes file : List ℕ) → Gave old new bytes → IsAtEnd new.left → old.left ≡ Some file → file ≡ bytes
all_given old new bytes file gave ended known = Consumes_all old.left new.left bytes file known gave.given ended

-- a source that gave more than it may have has a content that is longer, which is the known one
pub longer_content : (left left' : Option (List ℕ)) (bytes : List ℕ) → Consumes left left' bytes
    → (file : List ℕ) × (length bytes ≤ length file) × ((known : List ℕ) → left ≡ Some known → known ≡ file)
longer_content None left' bytes gave = (bytes, (let le : length bytes ≤ length bytes = omega arith in le), λ known is. let no : ⊥ = cc in absurd no)
longer_content (Some file) None bytes gave = absurd gave
longer_content (Some file) (Some rest) bytes gave = (file, omega (arith, ap length gave, length-append bytes rest), λ known is. same_Some known file (sym is))

-- what comparing the count with the stated length gave
pub other_count : (r : Option ℕ) (n : ℕ) (b : Bool) → b ≡ true → b ≡ not (option_eq eqb r (Some n)) → r ≡ Some n → ⊥
other_count None n b differs shown is = cc
other_count (Some k) n b differs shown is =
    let same : eqb k n ≡ true = eq-eqb k n (same_Some k n is) in
    let no : true ≡ false = sym differs ∙ shown ∙ ap not same in
    cc

pub same_count : (r : Option ℕ) (n : ℕ) (b : Bool) → b ≡ false → b ≡ not (option_eq eqb r (Some n)) → r ≡ Some n
same_count None n b equal shown = let never : ⊥ = cc in absurd never
same_count (Some k) n b equal shown = ap Some (eqb-true k n (not-false (eqb k n) (sym shown ∙ equal)))

-- a source was taken whole, and had as many bytes as stated
pub read_whole : {T : Type 0} (took : T → List ℕ → T → Type 0) (source source' : SourceSeen) (before after : T) (r : Option ℕ) (len : ℕ) (b : Bool)
    → b ≡ false → b ≡ not (option_eq eqb r (Some len)) → ReadAll took source source' len before after r → TookAll took source source' len before after len
read_whole took source source' before after r len b equal shown read =
    subst (ReadAll took source source' len before after) (same_count r len b equal shown) read
