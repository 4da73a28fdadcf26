-- What a call makes of a shelf in memory.
use Rattle.std.proofs.Common.{◌≡◌, ℕ, Option, Some, refl, ap, sym, ◌∙◌, subst}
use Rattle.benc.specs.declared.memory.source.MemSource.{MemSource}
use Rattle.folders.specs.MemShelfCalls.{IsOpenedAs, IsSourceOf, MemShelfSeen}
use Rattle.folders.specs.declared.memory.file.MemFile.{MemFile}

pub same_faults : (s : MemShelfSeen) (a b : ℕ) → a ≡ b → record s { faults = a } ≡ record s { faults = b }
same_faults s a b e = ap (λ n. record s { faults = n }) e

pub same_calls : (s : MemShelfSeen) (a b : Option ℕ) (m n openings : ℕ) → a ≡ b → m ≡ n
    → record s { before_fault = a; faults = m; openings = openings } ≡ record s { before_fault = b; faults = n; openings = openings }
same_calls s a b m n openings p q =
    ap (λ o. record s { before_fault = o; faults = m; openings = openings }) p
    ∙ ap (λ k. record s { before_fault = b; faults = k; openings = openings }) q

-- the file that was found was opened
pub opened_as : (there : Option MemFile) (file : MemFile) (at_most : ℕ) (source : MemSource) → there ≡ Some file → IsSourceOf file at_most source
    → IsOpenedAs there at_most (Some source)
opened_as there file at_most source found is = subst (λ o. IsOpenedAs o at_most (Some source)) (sym found) (source, refl, is)
