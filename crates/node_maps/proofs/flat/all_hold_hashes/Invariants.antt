use Rattle.node_maps.specs.Flat.{hash_in_row}
use Rattle.node_maps.specs.Runs.{AreKnown}
use Rattle.node_maps.proofs.flat.all_hold_hashes.Given as goal

-- the cells so far hold hashes
abbrev pub invariant-cells : goal.invariant-cells
invariant-cells l = AreKnown (hash_in_row l.row) 0 l.cell-index
