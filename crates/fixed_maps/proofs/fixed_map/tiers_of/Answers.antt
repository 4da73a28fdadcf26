use Rattle.std.proofs.Common.{◌+◌, ◌∙◌, ◌++◌, length, sym, ap, ap₂, arith}
use Rattle.std.proofs.lemmas.List.{length_push}
use Rattle.fixed_maps.specs.Tiers.{capacity_of, flat, room_of}
use Rattle.fixed_maps.proofs.Carried.{flat-push, room-push, capacity-push}
use Rattle.fixed_maps.proofs.fixed_map.tiers_of.Goals as goal

pub each-preserved : goal.each-preserved
each-preserved c =
    let ts = c.each.tiers.items in
    let t = c.in_ok-new.field-0 in
    record {
      count = ap length c.push_reserved.ensures.items ∙ length_push ts t ∙ ap (λ n. n + 1) c.each.invariant.count;
      none = ap flat c.push_reserved.ensures.items ∙ flat-push ts t ∙ ap₂ (λ xs ys. xs ++ ys) c.each.invariant.none c.in_ok-new.ensures.none;
      wide = ap room_of c.push_reserved.ensures.items ∙ room-push ts t ∙ ap₂ (λ m n. m + n) c.each.invariant.wide c.in_ok-new.ensures.width
          ∙ omega arith;
      memory = ap capacity_of c.push_reserved.ensures.items ∙ capacity-push ts t
          ∙ ap₂ (λ m n. m + n) c.each.invariant.memory (c.in_ok-new.ensures.memory ∙ sym c.in_ok-new.ensures.width)
          ∙ sym (ap room_of c.push_reserved.ensures.items ∙ room-push ts t);
      room = omega (arith, c.each.invariant.room, c.push_reserved.ensures.capacity);
    }
