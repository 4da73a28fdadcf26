use Rattle.std.proofs.Common.{◌≡◌, ◌-◌, ◌*◌, ◌≤◌, length, take, sum_by}
use Rattle.fixed_maps.specs.Tiers.{items_at}
use Rattle.holdings.specs.Tables.{weigh}
use Rattle.holdings.proofs.piece_table.held_of_tier.Given as goal

-- as many as are held of the pieces so far
abbrev pub invariant-places : goal.invariant-places
invariant-places l = record {
  inside : l.place ≤ length (items_at l.order.tiers l.tier);
  held : l.held ≡ sum_by (weigh l.cells l.width) (take l.place (items_at l.order.tiers l.tier));
  few : l.held ≤ l.place * l.width;
}

abbrev pub decreases-places : goal.decreases-places
decreases-places l = length (items_at l.order.tiers l.tier) - l.place
