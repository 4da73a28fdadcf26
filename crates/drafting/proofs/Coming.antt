-- What a file was given, and what was found of it, for drafts of its kind.
use Rattle.std.proofs.Common.{◌≡◌, ◌≢◌, inl, inr, ℕ, Bool, List, ◌++◌, Result, Ok, Err, IfOk, OnOk, OnErr, sym, subst}
use Rattle.std.proofs.Math.Logic.{∥∥₁_map}
use Rattle.gathering.specs.Hashing.{AreHashesOf}
use Rattle.gathering.specs.declared.hashing.FileHashes.{FileHashes}
use Rattle.drafting.specs.Coming.{AreFoundIn, FileTakesMemory, IsOfSome, IsSameKind, is_for_hybrids, piece_length_of}
use Rattle.drafting.specs.Stages.{AdvancesStage, FoundOf, HasSomeContent, LacksMemory}
use Rattle.drafting.specs.declared.coming_file.ComingFile.{ComingFile}
use Rattle.drafting.specs.declared.stage.Stage.{Stage}
use Rattle.drafting.specs.declared.stage.Stage.TheVariants as stage

-- more bytes came, so there is some content still
pub some_more : (p : ℕ) (h : Bool) (old new : Stage) (bytes : List ℕ) → HasSomeContent p h old → old ≢ stage.Refused → AdvancesStage old bytes new
    → HasSomeContent p h new
some_more p h old new bytes some works fed _ = ∥∥₁_map (some works) (λ x. (x.0 ++ bytes, fed.given p h x.0 x.1))

-- what was refused memory was to be kept in memory
pub takes_memory : (f : ComingFile) (bytes : List ℕ) → LacksMemory f.stage bytes → FileTakesMemory f bytes
takes_memory f bytes (inl refused) = inl refused
takes_memory f bytes (inr why) = inr (why (piece_length_of f) (is_for_hybrids f))

-- the same of a stage that was taken out of the file
pub took_memory : {T E : Type 0} (f : ComingFile) (s : Stage) (bytes : List ℕ) (r : Result T E) → s ≡ f.stage → OnErr r (LacksMemory s bytes)
    → OnErr r (FileTakesMemory f bytes)
took_memory f s bytes (Ok x) is lacks = tt
took_memory f s bytes (Err e) is lacks = takes_memory f bytes (subst (λ t. LacksMemory t bytes) is lacks)

pub found_in : {E : Type 0} (f : ComingFile) (s : Stage) (r : Result FileHashes E) → s ≡ f.stage → IfOk r (FoundOf s) → OnOk r (s ≢ stage.Refused)
    → IfOk r (AreFoundIn f)
found_in f s (Ok x) is found works =
    let each : FoundOf f.stage x = subst (λ t. FoundOf t x) is found in
    let there : f.stage ≢ stage.Refused = subst (λ t. t ≢ stage.Refused) is works in
    record {
      works = there;
      some = ∥∥₁_map (f.given there) (λ y. (y.0, each (piece_length_of f) (is_for_hybrids f) y.0 y.1));
      each = λ content at. each (piece_length_of f) (is_for_hybrids f) content at;
    }
found_in f s (Err e) is found works = tt

-- it is of some content for a file of the same kind too
pub of_same : (f g : ComingFile) (found : FileHashes) → IsSameKind f g → IsOfSome f found → IsOfSome g found
of_same f g found kind some = ∥∥₁_map some (λ x. (
  x.0,
  subst (λ h. AreHashesOf (piece_length_of g) h x.0 found) (sym kind.1)
      (subst (λ p. AreHashesOf p (is_for_hybrids f) x.0 found) (sym kind.0) x.1),
))
