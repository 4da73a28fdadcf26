use Rattle.std.proofs.Common.{◌≡◌, ◌+◌, ◌<◌, ◌++◌, ◌∷◌, None, length, take, drop, sym, ap, ◌∙◌, subst, arith}
use Rattle.std.specs.Vec.{vec_capacity}
use Rattle.std.specs.FinMap.{from_sorted, get, insert, len}
use Rattle.fixed_maps.specs.Tiers.{IsSpotOf, flat, room_of, before_spot, after_spot}
use Rattle.fixed_maps.specs.FixedMaps.{FixedMapSeen, map_of, map_room, IsFixedMap}
use Rattle.fixed_maps.proofs.Kept.{HasOneMore, refilled, map-len, one-inserted, still-fixed}
use Rattle.fixed_maps.proofs.fixed_map.FixedMap.insert.Goals as goal
use Rattle.fixed_maps.proofs.fixed_map.FixedMap.insert.Goals.{After-deref_mut, After-put_at}

few : (c : After-deref_mut) → length (flat c.self.inside.tiers.items) < room_of c.self.inside.tiers.items
few c =
    let given = subst (λ (m : FixedMapSeen). len (map_of m) < map_room m) (sym c.self.view_is) c.requires.room in
    let count = map-len (flat c.self.inside.tiers.items) c.self.invariant.rising in
    omega (arith, given, count)

-- the entry was put at the spot of its key
put : (c : After-put_at) → HasOneMore c.self.inside.tiers.items c.put_at.new.tiers c.args.key c.args.value
put c =
    let r = c.spot_of-spot.result in
    one-inserted (subst (λ ts. IsSpotOf c.args.key ts r.tier r.place) c.deref.ensures.value c.spot_of-spot.ensures) c.self.invariant.rising
    c.put_at.new.tiers c.args.value (subst (λ (m : FixedMapSeen). get (map_of m) c.args.key ≡ None) (sym c.self.view_is) c.requires.new)
    (subst (λ ts. flat c.put_at.new.tiers ≡ before_spot ts r.tier r.place ++ (c.args.key, c.args.value) ∷ after_spot ts r.tier r.place)
    c.deref_mut.ensures.value c.put_at.ensures.entries)

-- the tiers are written back whole
kept : (c : After-put_at) → take c.self.inside.tiers.len (c.put_at.new.tiers ++ drop (length c.put_at.new.tiers) c.self.inside.tiers.items)
    ≡ c.put_at.new.tiers
kept c = refilled c.self.inside.tiers.len c.put_at.new.tiers c.self.inside.tiers.items (omega (arith, c.put_at.auto.tiers, c.deref_mut.ensures.len))

pub put_at-requires-clause-room : goal.put_at-requires-clause-room
put_at-requires-clause-room c = subst (λ us. length (flat us) < room_of us) (sym c.deref_mut.ensures.value)
    (few (goal.at.put_at-requires-clause-room c).After-deref_mut)

pub overflow_add-self : goal.overflow_add-self
overflow_add-self c =
    let low = few (goal.at.overflow_add-self c).After-deref_mut in
    omega (arith, low, c.self.invariant.count_is, c.self.invariant.low)

pub invariant_of-self : goal.invariant_of-self
invariant_of-self c =
    let t = c.self.inside.tiers in
    let us = c.put_at.new.tiers in
    let more = put (goal.at.invariant_of-self c).After-put_at in
    subst (λ vs. IsFixedMap vs (c.self.inside.len + 1) (vec_capacity t)) (sym (kept (goal.at.invariant_of-self c).After-put_at))
    (still-fixed t.items us _ (c.self.inside.len + 1) _ c.self.invariant more.rising (omega (arith, more.count, c.self.invariant.count_is))
    (omega (arith, c.put_at.auto.tiers, c.deref_mut.ensures.len, t.ok.0)) (c.put_at.ensures.room ∙ ap room_of c.deref_mut.ensures.value))

pub returns-clause-map : goal.returns-clause-map
returns-clause-map c =
    let after = (goal.at.returns-clause-map c).After-put_at in
    ap (λ vs. from_sorted (flat vs)) (kept after) ∙ (put after).map_is ∙ ap (λ (m : FixedMapSeen). insert (map_of m) c.args.key c.args.value) c.self.view_is
