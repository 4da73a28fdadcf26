use Rattle.std.proofs.Common.{take}
use Rattle.fixed_maps.specs.Tiers.{AreBelow, flat}
use Rattle.fixed_maps.proofs.spot.spot_of.Given as goal

-- the keys of the tiers so far are below
abbrev pub invariant-tiers : goal.invariant-tiers
invariant-tiers l = AreBelow l.key (flat (take l.tier l.tiers))
