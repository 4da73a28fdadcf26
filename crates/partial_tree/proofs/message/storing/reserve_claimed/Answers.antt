use Rattle.std.proofs.Common.{◌≡◌, ◌+◌, ◌-◌, ◌/◌, ◌^◌, ◌<◌, ◌≤◌, inl, inr, sym, ap, ap₂, ◌∙◌, subst, refl, arith, div-one, eq-or-lt_of_le}
use Rattle.std.proofs.lemmas.Result.{on_ok_weaker}
use Rattle.node_maps.specs.Places.{tree_height}
use Rattle.node_maps.proofs.Nodes.{length-of}
use Rattle.partial_tree.specs.Evidence.{row_first, row_height}
use Rattle.node_maps.specs.Room.{page_span}
use Rattle.partial_tree.proofs.Rows.{claim-in_row, row-inside}
use Rattle.partial_tree.proofs.MessagePages.{layer-more, one_place}
use Rattle.partial_tree.specs.MessagePages.{pages_of_layers}
use Rattle.partial_tree.proofs.message.storing.reserve_claimed.Goals as goal

pub rows-init : goal.rows-init
rows-init g c =
    record {
      seen = refl;
      few = omega arith;
      room = λ k i is less. absurd (omega (arith, (claim-in_row c.args.evidence.now c.requires.leads.is_over.aligned k i is).0));
    }

pub reserve-requires-clause-range : goal.reserve-requires-clause-range
reserve-requires-clause-range g c =
    let h = tree_height (g.N.NodeMap.seen c.args.map.now).length in
    let inside : row_first c.args.evidence.now c.rows.below + 2 ^ row_height c.args.evidence.now c.rows.below ≤ 2 ^ (h - c.rows.below) =
    row-inside h c.args.evidence.now c.args.layer c.args.index c.rows.below c.requires.leads.is_over c.requires.place c.rows.auto.below c.rows-test.true in
    let same : tree_height (g.N.NodeMap.seen c.rows.map).length ≡ h = ap tree_height (length-of c.rows.invariant.seen) in
    let wide : c.row-first.result.0 + c.row-first.result.1 ≤ 2 ^ (tree_height (g.N.NodeMap.seen c.rows.map).length - c.rows.below) =
    subst (λ k. c.row-first.result.0 + c.row-first.result.1 ≤ 2 ^ (k - c.rows.below)) (sym same)
    (omega (arith, inside, c.row-first.ensures.first, c.row-first.ensures.count)) in
    omega (arith, wide)

pub rows-preserved : goal.rows-preserved
rows-preserved g c =
    let e = c.args.evidence.now in
    let before = c.rows.invariant in
    let now = c.in_ok-reserve.ensures in
    let has = g.N.NodeMap.has_room c.reserve.new.self in
    record {
      seen = now.seen ∙ before.seen;
      few = omega (
        arith,
        before.few,
        now.few,
        layer-more e.base e.index e.span c.rows.below c.rows.auto.below,
        ap₂ page_span c.row-first.ensures.first c.row-first.ensures.count,
      );
      room = λ k i is less. elim (eq-or-lt_of_le (let to : k ≤ c.rows.below = omega arith in to)) [
        | inl same ↦
            let at = claim-in_row e c.requires.leads.is_over.aligned k i is in
            let from : c.row-first.result.0 ≤ i = omega (arith, subst (λ l. row_first e l ≤ i) same at.1, c.row-first.ensures.first) in
            let to : i < c.row-first.result.0 + c.row-first.result.1 =
            omega (arith, subst (λ l. i < row_first e l + 2 ^ row_height e l) same at.2, c.row-first.ensures.first, c.row-first.ensures.count) in
            subst (λ l. has l i) (sym same) (now.room i (omega (arith, from)) (omega (arith, to)))
        | inr low ↦ now.keeps k i (before.room k i is low)
      ];
    }

pub returns-clause-room : goal.returns-clause-room
returns-clause-room g c = on_ok_weaker c.reserve-2.result (λ top l i is.
    let under = c.requires.leads.under_top l i is.0 is.1 in
    elim (eq-or-lt_of_le under.0) [
      | inl same ↦
          let none : c.args.layer - l ≡ 0 = omega arith in
          let here : i ≡ c.args.index = sym (div-one i) ∙ sym (ap (λ k. i / 2 ^ k) none) ∙ under.1 in
          subst (λ k. g.N.NodeMap.has_room c.reserve-2.new.self k i) (sym same) (top i (omega arith) (omega arith))
      | inr low ↦ c.reserve-2.ensures.keeps l i (c.rows.invariant.room l i is (omega (arith, c.rows-test.false)))
    ]) c.reserve-2.ensures.room

pub returns-clause-few : goal.returns-clause-few
returns-clause-few g c = on_ok_weaker c.reserve-2.result (λ few.
    let e = c.args.evidence.now in
    let all : c.rows.below ≡ c.args.layer = omega (arith, c.rows-test.false, c.rows.auto.below-end (omega (arith, c.requires.leads.is_over.covers))) in
    omega (arith, few, c.rows.invariant.few, one_place c.args.index, ap (λ l. pages_of_layers e.base e.index e.span (l - e.base)) all)) c.reserve-2.ensures.few
