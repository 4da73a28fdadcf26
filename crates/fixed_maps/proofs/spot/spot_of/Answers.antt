use Rattle.std.proofs.Common.{inl, arith}
use Rattle.fixed_maps.proofs.Spots.{tier-rising, spot-read}
use Rattle.fixed_maps.proofs.spot.spot_of.Goals as goal

pub place_of-place-requires : goal.place_of-place-requires
place_of-place-requires c = tier-rising c.args.tiers.now c.tiers.tier (omega (arith, c.tiers-test.true)) c.requires.rising c.index-tiers-tier.result
    c.index-tiers-tier.is

pub place_of-place-requires-2 : goal.place_of-place-requires-2
place_of-place-requires-2 c = tier-rising c.args.tiers.now _ (omega (arith, c.requires.some)) c.requires.rising c.index-tiers-last.result
    c.index-tiers-last.is

pub returns-then-place-len : goal.returns-then-place-len
returns-then-place-len c = spot-read c.args.key c.args.tiers.now c.tiers.tier c.place_of-place.result c.index-tiers-tier.result
    (omega (arith, c.tiers-test.true)) c.requires.rising c.index-tiers-tier.is c.place_of-place.ensures.inside c.tiers.invariant
    c.place_of-place.ensures.place (inl (omega (arith, c.if-place-len.true, c.len.ensures)))
