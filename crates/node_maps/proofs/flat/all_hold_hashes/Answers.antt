use Rattle.std.proofs.Common.{None, is_some, not, get_or, sym, ap, ◌∙◌, below_more}
use Rattle.std.proofs.lemmas.Bool.{false≢true}
use Rattle.chains.proofs.Cases.{some_of}
use Rattle.node_maps.specs.Flat.{hash_in_row}
use Rattle.node_maps.proofs.Runs.{from-start}
use Rattle.node_maps.proofs.flat.all_hold_hashes.Goals as goal

pub returns-then-is_none : goal.returns-then-is_none
returns-then-is_none c =
    let start = from-start (hash_in_row c.args.row.now) c.cells.cell-index in (
      λ e. absurd (false≢true e),
      λ all. let here = all c.cells.cell-index c.cells-test.true in
          absurd (false≢true (sym (c.is_none.ensures ∙ ap not c.if-is_none.true) ∙ ap is_some (sym start ∙ here.1))),
    )

pub cells-preserved : goal.cells-preserved
cells-preserved c =
    let here = some_of (get_or c.args.row.now c.cells.cell-index None) (c.is_none.ensures ∙ ap not c.if-is_none.false) in
    below_more _ _ c.cells.invariant (here.0, from-start (hash_in_row c.args.row.now) c.cells.cell-index ∙ here.1)
