use Rattle.std.proofs.Common.{◌≡◌, ◌≤◌, ◌++◌, ◌∷◌, length, take, drop}
use Rattle.fixed_maps.specs.Tiers.{flat, room_of}
use Rattle.fixed_maps.proofs.tiers.carry_on.Given as goal

-- the entry that is carried stands between the tiers so far and the others
abbrev pub invariant-tiers : goal.invariant-tiers
invariant-tiers l = record {
  inside : l.at ≤ length l.tiers;
  entries : flat (take l.at l.tiers) ++ l.carried ∷ flat (drop l.at l.tiers) ≡ flat (take l.from l.fn.tiers) ++ l.fn.entry ∷ flat (drop l.from l.fn.tiers);
  room : room_of l.tiers ≡ room_of l.fn.tiers;
}
