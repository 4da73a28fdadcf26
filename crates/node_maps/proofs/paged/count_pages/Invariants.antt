use Rattle.std.proofs.Common.{◌≡◌, ◌*◌, ◌^◌, ◌≤◌}
use Rattle.node_maps.specs.Paged.{held_below}
use Rattle.node_maps.proofs.paged.count_pages.Given as goal

-- the pages so far are counted
abbrev pub invariant-rows : goal.invariant-rows
invariant-rows l = record {
  count : l.count ≡ held_below l.rows l.layer;
  bound : l.count ≤ l.layer * 2 ^ 32;
}
