use Rattle.std.proofs.Common.{◌≡◌, ℕ, suc, ◌+◌, ◌-◌, ◌<◌, ◌/◌, length, take, sym, ◌∙◌, ap, subst, get_or, arith}
use Rattle.std.specs.Ordering.{is_lt}
use Rattle.node_maps.specs.Known.{place_cmp}
use Rattle.fixed_maps.specs.Tiers.{AreBelow}
use Rattle.fixed_maps.proofs.Rising.{below-upto, from-at, is-less}
use Rattle.fixed_maps.proofs.tier.place_in.Goals as goal
use Rattle.fixed_maps.proofs.tier.place_in.Goals.{After-is_below}

-- the middle entry, and on which side of the key it is
module _ (c : After-is_below) where
  abbrev m : ℕ
  m = c.halves.low + (c.halves.high - c.halves.low) / 2

  low : m < c.halves.high
  low = omega (arith, c.halves-test.true)

  inside : m < length c.args.entries.now.items
  inside = omega (arith, low, c.halves.invariant.inside)

  side : is_lt (place_cmp (get_or c.args.entries.now.items m c.index.result.now).0 c.args.key) ≡ c.is_below.result
  side = sym (ap (λ e. is_lt (place_cmp e.0 c.args.key)) c.index.ensures) ∙ sym c.is_below.ensures

pub halves-preserved-then-is_below : goal.halves-preserved-then-is_below
halves-preserved-then-is_below c =
    let s = (goal.at.halves-preserved-then-is_below c).After-is_below in
    let step : suc (m s) ≡ m s + 1 = omega arith in
    record {
      ordered = omega (arith, c.halves-test.true);
      inside = c.halves.invariant.inside;
      place = record {
        below = subst (λ n. AreBelow c.args.key (take n c.args.entries.now.items)) step
            (below-upto c.args.key _ _ c.index.result.now c.requires (inside s) (is-less _ (side s ∙ c.if-is_below.true)));
        from = c.halves.invariant.place.from;
      };
    }

pub halves-preserved : goal.halves-preserved
halves-preserved c =
    let s = (goal.at.halves-preserved c).After-is_below in
    let low = inside s in
    record {
      ordered = omega (arith, c.halves-test.true);
      inside = omega (arith, low);
      place = record {
        below = c.halves.invariant.place.below;
        from = from-at c.args.key _ _ c.index.result.now c.requires (inside s) (side s ∙ c.if-is_below.false);
      };
    }
