use Rattle.std.proofs.Common.{sym, ◌∙◌, arith}
use Rattle.session_exports.proofs.Leaves.{one_unknown, unknown-join, unknown-all, only-root, none_of, some_of}
use Rattle.session_exports.proofs.search.next_leaf.Goals as goal

pub returns-then-blocks-lt2-clause-none : goal.returns-then-blocks-lt2-clause-none
returns-then-blocks-lt2-clause-none g c =
    only-root c.args.session.now c.args.tree c.args.from c.blocks-blocks.result c.blocks-blocks.ensures.value c.if-blocks-lt2.true

pub returns-then-is_some-clause-found : goal.returns-then-is_some-clause-found
returns-then-is_some-clause-found g c =
    let (s, there, is) = c.hash_at.ensures in let (t, at, count) = c.blocks-blocks.ensures.value in
    let (v, known) = some_of c.hash_at.result (sym c.if-is_some.ensures) in (
      c.leaves.invariant.later,
      omega (arith, c.leaves-test.true, c.blocks-blocks.ensures.bound),
      record {
        tree = t;
        state = s;
        is_tree = record { tree_is = at; state_is = there };
        many = omega (arith, c.if-blocks-lt2.false, count);
        inside = omega (arith, c.leaves-test.true, count);
        known = (v, sym is ∙ known);
      },
      c.leaves.invariant.unknown,
    )

pub leaves-preserved : goal.leaves-preserved
leaves-preserved g c = record {
  later = omega (arith, c.leaves.invariant.later, c.after_unknown-block.ensures.later);
  unknown = unknown-join c.args.session.now c.args.tree c.args.from c.leaves.block c.after_unknown-block.result c.leaves.invariant.unknown
      c.after_unknown-block.ensures.unknown;
}

pub after_unknown-block-requires-clause-unknown : goal.after_unknown-block-requires-clause-unknown
after_unknown-block-requires-clause-unknown g c =
    let (s, there, is) = c.hash_at.ensures in
    one_unknown c.args.session.now c.args.tree c.leaves.block s there (sym is ∙ none_of c.hash_at.result (sym c.if-is_some.ensures))

pub returns-clause-none : goal.returns-clause-none
returns-clause-none g c =
    unknown-all c.args.session.now c.args.tree c.args.from c.leaves.block c.blocks-blocks.result c.leaves.invariant.unknown
    c.blocks-blocks.ensures.value c.leaves-test.false
