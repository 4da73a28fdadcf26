use Rattle.std.proofs.Common.{◌≡◌, get_or, Some, refl, sym, ap, ◌∙◌, below_more}
use Rattle.std.proofs.lemmas.Bool.{false≢true}
use Rattle.std.proofs.lemmas.Option.{none-some}
use Rattle.node_maps.specs.Cell.{hash_of, hash_in}
use Rattle.node_maps.specs.declared.page.Cell.{Cell}
use Rattle.node_maps.specs.declared.page.Cell.TheVariants.{Empty, Known, Marked}
use Rattle.node_maps.specs.Digest.{Hash}
use Rattle.node_maps.proofs.Runs.{from-start}
use Rattle.node_maps.proofs.page.all_hold_hashes.Goals as goal

-- a cell that is not empty holds a hash
holds : (cell : Cell) → (cell ≡ Empty → ⊥) → (v : Hash) × (hash_of cell ≡ Some v)
holds Empty not = absurd (not refl)
holds (Known h) not = (h, refl)
holds (Marked h) not = (h, refl)

pub returns-in-Empty : goal.returns-in-Empty
returns-in-Empty c =
    let start = from-start (hash_in c.args.cells.now) c.cells.cell-index in (
      λ e. absurd (false≢true e),
      λ all. let here = all c.cells.cell-index c.cells-test.true in absurd (none-some here.0 (sym (start ∙ ap hash_of c.in-Empty.is) ∙ here.1)),
    )

pub cells-preserved : goal.cells-preserved
cells-preserved c =
    let here = holds (get_or c.args.cells.now c.cells.cell-index Empty) c.in_default.not-Empty in
    below_more _ _ c.cells.invariant (here.0, from-start (hash_in c.args.cells.now) c.cells.cell-index ∙ here.1)
