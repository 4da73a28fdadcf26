use Rattle.std.proofs.Common.{◌∙◌, ◌<◌, take, drop, sym, ap, subst, refl}
use Rattle.std.specs.Ordering.{is_lt}
use Rattle.node_maps.specs.Known.{place_cmp}
use Rattle.fixed_maps.specs.Tiers.{TierSeen, AreRising, IsPlaceOfKey}
use Rattle.fixed_maps.proofs.Rising.{all-below, is-less}
use Rattle.fixed_maps.proofs.tier.Tier.place_of.Goals as goal

pub returns-in-Some-clause-place : goal.returns-in-Some-clause-place
returns-in-Some-clause-place c =
    let q = c.self.inside.entries in
    let n = c.len.result in
    let some : 0 < q.len = c.in-Some.ensures.variant.0 refl in
    let rising = subst (λ (t : TierSeen). AreRising t.items) (sym c.self.view_is) c.requires in
    let below = is-less _ (sym (ap (λ e. is_lt (place_cmp e.0 c.args.key)) c.in-Some.ensures.lookup) ∙ sym c.is_below.ensures ∙ c.if-is_below.true) in
    subst (λ (t : TierSeen). IsPlaceOfKey c.args.key (take n t.items) (drop n t.items)) c.self.view_is
    (subst (λ m. IsPlaceOfKey c.args.key (take m q.items) (drop m q.items)) (sym c.len.ensures)
    (all-below c.args.key q.items q.len c.in-Some.last.now rising q.ok.0 some below))
