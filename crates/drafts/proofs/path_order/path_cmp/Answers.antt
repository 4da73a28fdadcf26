use Rattle.std.proofs.Common.{◌<◌, ◌∙◌, inl, inr, map, length, [], sym, ap, arith}
use Rattle.std.proofs.lemmas.Bool.{cases_lt}
use Rattle.std.proofs.lemmas.List.{get_or-map, length-map}
use Rattle.std.specs.String.{string_bytes}
use Rattle.drafts.proofs.Ordering.{compare_all, turn_ends, turn_goes_on}
use Rattle.drafts.proofs.path_order.path_cmp.Goals as goal

pub returns-then-is_ne : goal.returns-then-is_ne
returns-then-is_ne c =
    let own : c.parts.i < length c.args.own.now = omega (arith, c.parts-test.true, c.min-count.ensures) in
    let path : c.parts.i < length c.args.path.now = omega (arith, c.parts-test.true, c.min-count.ensures) in
    turn_ends (map string_bytes c.args.own.now) (map (λ s. s.now) c.args.path.now) c.parts.i _ _ c.cmp-order.result c.parts.invariant
    (omega (arith, own, length-map c.args.own.now string_bytes)) (omega (arith, path, length-map c.args.path.now (λ s. s.now)))
    (get_or-map string_bytes c.args.own.now c.parts.i c.index-own-i.result [] own ∙ ap string_bytes (sym c.index-own-i.is) ∙ sym c.as_str.ensures.value)
    (get_or-map (λ s. s.now) c.args.path.now c.parts.i _ [] path) c.cmp-order.ensures (sym c.is_ne.ensures ∙ c.if-is_ne.true)

pub parts-preserved : goal.parts-preserved
parts-preserved c =
    let own : c.parts.i < length c.args.own.now = omega (arith, c.parts-test.true, c.min-count.ensures) in
    let path : c.parts.i < length c.args.path.now = omega (arith, c.parts-test.true, c.min-count.ensures) in
    turn_goes_on (map string_bytes c.args.own.now) (map (λ s. s.now) c.args.path.now) c.parts.i _ _ c.cmp-order.result c.parts.invariant
    (omega (arith, own, length-map c.args.own.now string_bytes)) (omega (arith, path, length-map c.args.path.now (λ s. s.now)))
    (get_or-map string_bytes c.args.own.now c.parts.i c.index-own-i.result [] own ∙ ap string_bytes (sym c.index-own-i.is) ∙ sym c.as_str.ensures.value)
    (get_or-map (λ s. s.now) c.args.path.now c.parts.i _ [] path) c.cmp-order.ensures (sym c.is_ne.ensures ∙ c.if-is_ne.false)

pub returns : goal.returns
returns c =
    sym (c.parts.invariant ∙ compare_all (map string_bytes c.args.own.now) (map (λ s. s.now) c.args.path.now) c.parts.i
    (elim (cases_lt c.parts.i (length c.args.own.now)) [
      | inl less ↦ inr (omega (arith, less, c.parts-test.false, c.min-count.ensures, length-map c.args.path.now (λ s. s.now)))
      | inr past ↦ inl (omega (arith, past, length-map c.args.own.now string_bytes))
    ]))
