use Rattle.std.proofs.Common.{◌-◌, ◌≤◌, length, take, drop}
use Rattle.fixed_maps.specs.Tiers.{IsPlaceOfKey}
use Rattle.fixed_maps.proofs.tier.place_in.Given as goal

-- the keys before `low` are below, and those from `high` on are not
abbrev pub invariant-halves : goal.invariant-halves
invariant-halves l = record {
  ordered : l.low ≤ l.high;
  inside : l.high ≤ length l.entries.items;
  place : IsPlaceOfKey l.key (take l.low l.entries.items) (drop l.high l.entries.items);
}

abbrev pub decreases-halves : goal.decreases-halves
decreases-halves l = l.high - l.low
