use Rattle.std.proofs.Common.{◌≡◌, sym, ◌∙◌, subst}
use Rattle.std.specs.FinMap.{len}
use Rattle.fixed_maps.specs.FixedMaps.{FixedMapSeen, map_of}
use Rattle.fixed_maps.proofs.Kept.{map-len}
use Rattle.fixed_maps.proofs.fixed_map.FixedMap.len.Goals as goal

pub returns : goal.returns
returns c = subst (λ (m : FixedMapSeen). c.self.inside.len ≡ len (map_of m)) c.self.view_is
    (c.self.invariant.count_is ∙ sym (map-len _ c.self.invariant.rising))
