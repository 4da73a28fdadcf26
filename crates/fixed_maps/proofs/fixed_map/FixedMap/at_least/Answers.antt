use Rattle.std.proofs.Common.{◌≡◌, ℕ, Some, None, true, false, IfSome, IfNone, subst}
use Rattle.std.specs.Ordering.{is_lt}
use Rattle.std.specs.FinMap.{get}
use Rattle.node_maps.specs.Known.{place_cmp}
use Rattle.fixed_maps.specs.Tiers.{IsSpotOf}
use Rattle.fixed_maps.specs.FixedMaps.{FixedMapSeen, map_of}
use Rattle.fixed_maps.proofs.Kept.{IsReadAt, read-at, at-there, at-from, at-least, at-none}
use Rattle.fixed_maps.proofs.fixed_map.FixedMap.at_least.Goals as goal
use Rattle.fixed_maps.proofs.fixed_map.FixedMap.at_least.Goals.{After-entry}

read : (c : After-entry) → IsReadAt c.args.key c.self.inside.tiers.items c.spot_of-spot.result.tier c.spot_of-spot.result.place c.entry.result
read c = read-at (subst (λ ts. IsSpotOf c.args.key ts c.spot_of-spot.result.tier c.spot_of-spot.result.place) c.deref.ensures.value c.spot_of-spot.ensures)
    c.self.invariant.rising c.index-tier.result.now c.index-tier.ensures c.entry.result c.entry.ensures

pub returns-clause-there : goal.returns-clause-there
returns-clause-there c =
    subst (λ (m : FixedMapSeen). IfSome c.entry.result (λ e. get (map_of m) e.0 ≡ Some e.1)) c.self.view_is
    (at-there c.entry.result (read (goal.at.returns-clause-there c).After-entry))

pub returns-clause-from : goal.returns-clause-from
returns-clause-from c = at-from c.entry.result (read (goal.at.returns-clause-from c).After-entry)

pub returns-clause-least : goal.returns-clause-least
returns-clause-least c =
    subst (λ (m : FixedMapSeen). IfSome c.entry.result (λ e. (q : ℕ × ℕ) → is_lt (place_cmp q c.args.key) ≡ false → is_lt (place_cmp q e.0) ≡ true
    → get (map_of m) q ≡ None)) c.self.view_is (at-least c.entry.result (read (goal.at.returns-clause-least c).After-entry))

pub returns-clause-none : goal.returns-clause-none
returns-clause-none c =
    subst (λ (m : FixedMapSeen). IfNone c.entry.result ((q : ℕ × ℕ) → is_lt (place_cmp q c.args.key) ≡ false → get (map_of m) q ≡ None)) c.self.view_is
    (at-none c.entry.result (read (goal.at.returns-clause-none c).After-entry))
