use Rattle.std.proofs.Common.{◌≡◌, drop}
use Rattle.node_maps.specs.Cell.{is_blank}
use Rattle.node_maps.proofs.page.holds_nothing.Given as goal

-- what is left says what the whole page says
abbrev pub invariant-cells : goal.invariant-cells
invariant-cells l = is_blank (drop l.cell-index l.cells) ≡ is_blank l.cells
