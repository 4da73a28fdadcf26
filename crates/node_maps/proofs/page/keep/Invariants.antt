use Rattle.std.proofs.Common.{◌≡◌, ◌+◌, ◌-◌, ◌≤◌, ◌++◌, replicate, vec_len, vec_capacity}
use Rattle.node_maps.specs.declared.page.Cell.TheVariants.{Empty}
use Rattle.node_maps.proofs.page.keep.Given as goal

-- cells were appended that are empty, up to the place at most
abbrev pub invariant-places : goal.invariant-places
invariant-places l = record {
  items : l.cells.items ≡ l.initial.cells.items ++ replicate (vec_len l.cells - vec_len l.initial.cells) Empty;
  more : vec_len l.initial.cells ≤ vec_len l.cells;
  few : vec_len l.cells - vec_len l.initial.cells ≤ l.place + 1 - vec_len l.initial.cells;
  room : vec_capacity l.cells ≡ vec_capacity l.initial.cells;
}

abbrev pub decreases-places : goal.decreases-places
decreases-places l = l.place + 1 - vec_len l.cells
