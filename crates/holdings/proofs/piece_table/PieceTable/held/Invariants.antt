use Rattle.std.proofs.Common.{◌≡◌, ◌*◌, ◌≤◌, length, take, sum_by}
use Rattle.fixed_maps.specs.Tiers.{flat}
use Rattle.holdings.specs.Tables.{weigh}
use Rattle.holdings.proofs.piece_table.PieceTable.held.Given as goal

-- as many as are held of the pieces of the tiers so far
abbrev pub invariant-tiers : goal.invariant-tiers
invariant-tiers l = record {
  held : l.held ≡ sum_by (weigh l.self-inside.cells.items l.self-inside.width) (flat (take l.tier l.self-inside.order.tiers));
  few : l.held ≤ length (flat (take l.tier l.self-inside.order.tiers)) * l.self-inside.width;
}
