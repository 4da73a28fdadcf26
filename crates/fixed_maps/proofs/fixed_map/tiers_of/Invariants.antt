use Rattle.std.proofs.Common.{◌≡◌, ◌*◌, [], length, vec_capacity}
use Rattle.fixed_maps.specs.Tiers.{capacity_of, flat, room_of}
use Rattle.fixed_maps.proofs.fixed_map.tiers_of.Given as goal

-- this many tiers, with no entries and no more memory than room, and the rest has room
abbrev pub invariant-each : goal.invariant-each
invariant-each l = record {
  count : length l.tiers.items ≡ l._i;
  none : flat l.tiers.items ≡ [];
  wide : room_of l.tiers.items ≡ l._i * l.width;
  memory : capacity_of l.tiers.items ≡ room_of l.tiers.items;
  room : vec_capacity l.tiers ≡ l.count;
}
