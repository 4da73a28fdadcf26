use Rattle.std.proofs.Common.{◌≡◌, ◌+◌, refl, sym, ap, ◌∙◌, arith}
use Rattle.std.specs.FinSet as set
use Rattle.node_maps.specs.Known.{look}
use Rattle.node_maps.specs.Nodes.{with_marks}
use Rattle.node_maps.proofs.Nodes.{known-of, length-of, marked-of, same-nodes}
use Rattle.partial_tree.proofs.Adopted.{carried-none, carried-mark, carried-not, carried-all}
use Rattle.partial_tree.proofs.growing.adopting.carry_marks.Goals.{then-is_marked, else-is_marked}
use Rattle.partial_tree.proofs.growing.adopting.carry_marks.Goals as goal

pub leaves-init : goal.leaves-init
leaves-init g c = record {
  seen = same-nodes refl refl refl;
  held = refl;
  marked = carried-none (g.N.NodeMap.seen c.args.old.now).marked (g.N.NodeMap.seen c.args.new.now).marked c.requires.none;
}

pub mark-requires : goal.mark-requires
mark-requires g c =
    let there = c.requires.known c.leaves.index (omega (arith, c.leaves-test.true)) in
    let here : c.leaves.index ≡ 0 + c.leaves.index = omega arith in
    (there.0, ap (λ m. look m 0 c.leaves.index) (known-of c.leaves.invariant.seen) ∙ ap (look (g.N.NodeMap.seen c.args.new.now).known 0) here ∙ there.1)

pub leaves-preserved : goal.leaves-preserved
leaves-preserved g c =
    let before = c.leaves.invariant in
    let old = (g.N.NodeMap.seen c.args.old.now).marked in
    elim c.if-is_marked.branch [
      | then-is_marked w ↦
          let step = ap g.N.NodeMap.seen w.new-is ∙ w.mark.ensures.seen in
          record {
            seen = same-nodes (length-of step ∙ length-of before.seen) (known-of step ∙ known-of before.seen) refl;
            held = ap g.N.NodeMap.held w.new-is ∙ w.mark.ensures.held ∙ before.held;
            marked = carried-mark old (g.N.NodeMap.seen c.leaves.new).marked (g.N.NodeMap.seen c.if-is_marked.new).marked c.leaves.index before.marked
                (sym c.is_marked.ensures ∙ w.if-is_marked.true) (marked-of step);
          }
      | else-is_marked w ↦
          let step = ap g.N.NodeMap.seen w.new-is in
          record {
            seen = same-nodes (length-of step ∙ length-of before.seen) (known-of step ∙ known-of before.seen) refl;
            held = ap g.N.NodeMap.held w.new-is ∙ before.held;
            marked = λ i. ap (λ m. set.contains m i) (marked-of step) ∙ carried-not old (g.N.NodeMap.seen c.leaves.new).marked c.leaves.index before.marked
                (sym c.is_marked.ensures ∙ w.if-is_marked.false) i;
          }
    ]

pub returns-clause-carried : goal.returns-clause-carried
returns-clause-carried g c =
    let end : c.leaves.index ≡ c.args.count = omega (arith, c.leaves-test.false, c.leaves.auto.index-end) in
    c.leaves.invariant.seen ∙ ap (with_marks (g.N.NodeMap.seen c.args.new.now))
    (carried-all (g.N.NodeMap.seen c.args.old.now).marked (g.N.NodeMap.seen c.leaves.new).marked c.leaves.index
    (λ i m. (let low = c.requires.few i m in omega (arith, low, end))) c.leaves.invariant.marked)
