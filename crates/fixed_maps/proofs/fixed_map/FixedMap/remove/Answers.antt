use Rattle.std.proofs.Common.{◌≡◌, ◌-◌, ◌++◌, length, take, drop, sym, ap, ◌∙◌, subst, arith}
use Rattle.std.specs.Ordering.{is_eq}
use Rattle.std.specs.Vec.{vec_capacity}
use Rattle.std.specs.FinMap.{from_sorted, remove}
use Rattle.fixed_maps.specs.Tiers.{IsSpotOf, flat, room_of, before_spot, after_spot_but_one}
use Rattle.fixed_maps.specs.FixedMaps.{FixedMapSeen, map_of, IsFixedMap}
use Rattle.fixed_maps.proofs.Kept.{IsReadAt, HasOneLess, refilled, read-at, one-removed, absent-end, absent-other, still-fixed}
use Rattle.fixed_maps.proofs.fixed_map.FixedMap.remove.Goals as goal
use Rattle.fixed_maps.proofs.fixed_map.FixedMap.remove.Goals.{After-entry, After-take_at}

read : (c : After-entry) → IsReadAt c.args.key c.self.inside.tiers.items c.spot_of-spot.result.tier c.spot_of-spot.result.place c.entry.result
read c = read-at (subst (λ ts. IsSpotOf c.args.key ts c.spot_of-spot.result.tier c.spot_of-spot.result.place) c.deref.ensures.value c.spot_of-spot.ensures)
    c.self.invariant.rising c.index-tier.result.now c.index-tier.ensures c.entry.result c.entry.ensures

-- the entry at the spot of the key was its own, and was taken out
taken : (c : After-take_at) → HasOneLess c.self.inside.tiers.items c.take_at.new.tiers c.args.key
taken c =
    let r = c.spot_of-spot.result in
    one-removed (subst (IsReadAt c.args.key c.self.inside.tiers.items r.tier r.place) c.in-Some.is (read (goal.at.After-take_at c).After-entry))
    (sym (ap is_eq c.cmp.ensures) ∙ sym c.is_eq.ensures ∙ c.if-is_eq.true) c.take_at.new.tiers
    (subst (λ ts. flat c.take_at.new.tiers ≡ before_spot ts r.tier r.place ++ after_spot_but_one ts r.tier r.place) c.deref_mut.ensures.value
    c.take_at.ensures.entries)

-- the tiers are written back whole
kept : (c : After-take_at) → take c.self.inside.tiers.len (c.take_at.new.tiers ++ drop (length c.take_at.new.tiers) c.self.inside.tiers.items)
    ≡ c.take_at.new.tiers
kept c = refilled c.self.inside.tiers.len c.take_at.new.tiers c.self.inside.tiers.items (omega (arith, c.take_at.auto.tiers, c.deref_mut.ensures.len))

pub returns-in_default-clause-map : goal.returns-in_default-clause-map
returns-in_default-clause-map c =
    let r = c.spot_of-spot.result in
    subst (λ (m : FixedMapSeen). map_of m ≡ remove (map_of m) c.args.key) c.self.view_is
    (absent-end (subst (IsReadAt c.args.key c.self.inside.tiers.items r.tier r.place) c.in_default.is
    (read (goal.at.returns-in_default-clause-map c).After-entry)))

pub overflow_sub-self : goal.overflow_sub-self
overflow_sub-self c = let less = taken (goal.at.overflow_sub-self c).After-take_at in omega (arith, less.count, c.self.invariant.count_is)

pub invariant_of-self : goal.invariant_of-self
invariant_of-self c =
    let t = c.self.inside.tiers in
    let us = c.take_at.new.tiers in
    let less = taken (goal.at.invariant_of-self c).After-take_at in
    subst (λ vs. IsFixedMap vs (c.self.inside.len - 1) (vec_capacity t)) (sym (kept (goal.at.invariant_of-self c).After-take_at))
    (still-fixed t.items us _ (c.self.inside.len - 1) _ c.self.invariant less.rising (omega (arith, less.count, c.self.invariant.count_is))
    (omega (arith, c.take_at.auto.tiers, c.deref_mut.ensures.len, t.ok.0)) (c.take_at.ensures.room ∙ ap room_of c.deref_mut.ensures.value))

pub returns-then-is_eq-clause-map : goal.returns-then-is_eq-clause-map
returns-then-is_eq-clause-map c =
    let after = (goal.at.returns-then-is_eq-clause-map c).After-take_at in
    ap (λ vs. from_sorted (flat vs)) (kept after) ∙ (taken after).map_is ∙ ap (λ (m : FixedMapSeen). remove (map_of m) c.args.key) c.self.view_is

pub returns-else-is_eq-clause-map : goal.returns-else-is_eq-clause-map
returns-else-is_eq-clause-map c =
    let r = c.spot_of-spot.result in
    subst (λ (m : FixedMapSeen). map_of m ≡ remove (map_of m) c.args.key) c.self.view_is
    (absent-other (subst (IsReadAt c.args.key c.self.inside.tiers.items r.tier r.place) c.in-Some.is
    (read (goal.at.returns-else-is_eq-clause-map c).After-entry)) (sym (ap is_eq c.cmp.ensures) ∙ sym c.is_eq.ensures ∙ c.if-is_eq.false))
