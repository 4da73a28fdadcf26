use Rattle.std.proofs.Common.{◌≡◌, ◌-◌, ◌++◌, ◌∷◌, [], length, take, drop}
use Rattle.fixed_maps.specs.Tiers.{flat, room_of}
use Rattle.fixed_maps.proofs.tiers.carry_back.Given as goal

-- the entry that is carried stands before the tiers so far, which are full
abbrev pub invariant-tiers : goal.invariant-tiers
invariant-tiers l = record {
  entries : flat (take (length l.tiers - l.behind) l.tiers) ++ l.carried ∷ flat (drop (length l.tiers - l.behind) l.tiers)
      ≡ flat l.fn.tiers ++ l.fn.entry ∷ [];
  room : room_of l.tiers ≡ room_of l.fn.tiers;
  full : length (flat (drop (length l.tiers - l.behind) l.tiers)) ≡ room_of (drop (length l.tiers - l.behind) l.tiers);
}
