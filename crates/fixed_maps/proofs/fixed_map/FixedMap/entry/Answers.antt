use Rattle.std.proofs.Common.{◌≡◌, ◌<◌, length, Some, IfSome, subst, sym, ap, ◌∙◌}
use Rattle.std.specs.Prelude.{slice_get}
use Rattle.std.specs.FinMap.{get}
use Rattle.fixed_maps.specs.Tiers.{items_at}
use Rattle.fixed_maps.specs.FixedMaps.{FixedMapSeen, map_of}
use Rattle.fixed_maps.proofs.Spots.{read-items}
use Rattle.fixed_maps.proofs.Kept.{IsAt, is-at, stands}
use Rattle.fixed_maps.proofs.fixed_map.FixedMap.entry.Goals as goal

pub returns-clause-there : goal.returns-clause-there
returns-clause-there c =
    let ts = c.self.inside.tiers.items in
    let lt = subst (λ (m : FixedMapSeen). c.args.tier < length m.tiers) (sym c.self.view_is) c.requires in
    let read = c.entry.ensures ∙ ap (λ es. slice_get es c.args.place) (read-items ts c.args.tier c.index-tier.result.now lt c.index-tier.ensures) in
    subst (λ (m : FixedMapSeen). IfSome c.entry.result (λ e. get (map_of m) e.0 ≡ Some e.1)) c.self.view_is
    (stands ts c.args.tier c.args.place lt c.self.invariant.rising c.entry.result
    (subst (λ o. IsAt o (items_at ts c.args.tier) c.args.place) (sym read) (is-at (items_at ts c.args.tier) c.args.place)))
