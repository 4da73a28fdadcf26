-- What opening a file at a place makes of a shelf in memory.
use Rattle.std.proofs.Common.{◌≡◌, ℕ, Option, Some, refl, sym, ◌∙◌, subst, drop}
use Rattle.benc.specs.declared.memory.source.MemSource.{MemSource}
use Rattle.folders.specs.MemShelfCalls.{IsSourceOf}
use Rattle.folders.specs.MemShelfSeeking.{IsOpenedFrom, IsSourceFrom}
use Rattle.folders.specs.declared.memory.file.MemFile.{MemFile}

-- the source of a file without its first bytes gives the file from there on
source_from : (offset : ℕ) (file rest : MemFile) (at_most : ℕ) (source : MemSource) → rest.content.now ≡ drop offset file.content.now
    → rest.before_fault ≡ file.before_fault → IsSourceOf rest at_most source → IsSourceFrom offset file at_most source
source_from offset file rest at_most source bytes fails is = record {
  bytes = is.bytes ∙ bytes;
  bound = is.bound;
  fails = is.fails ∙ fails;
  faults = is.faults;
}

-- the file that was found was opened there
pub opened_from : (offset : ℕ) (there : Option MemFile) (file rest : MemFile) (at_most : ℕ) (source : MemSource) → there ≡ Some file
    → rest.content.now ≡ drop offset file.content.now → rest.before_fault ≡ file.before_fault → IsSourceOf rest at_most source
    → IsOpenedFrom offset there at_most (Some source)
opened_from offset there file rest at_most source found bytes fails is =
    subst (λ o. IsOpenedFrom offset o at_most (Some source)) (sym found) (source, refl, source_from offset file rest at_most source bytes fails is)
