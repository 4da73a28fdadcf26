use Rattle.std.proofs.Common.{◌≡◌, true, false, arith, sym, ap, ◌∙◌, rules}
use Rattle.benc.specs.View.{pair_view, view}
use Rattle.benc.specs.declared.value.Value.{the_lemmas}
use Rattle.filetree.specs.FileTree.{is_nil, walks_in}
use Rattle.filetree.specs.FileTests.{any_fails}
use Rattle.filetree.proofs.FilesTested.{any_at, at_component}
use Rattle.filetree.proofs.file_tests.+file_test.Goals as goal

pub any_fails-returns-then-any_fails_at : goal.any_fails-returns-then-any_fails_at
any_fails-returns-then-any_fails_at t c =
    sym (c.pairs.invariant ∙ any_at c.args.test c.args.pairs.now c.pairs.pair-index c.pair-item.result true (omega arith) c.pair-item.is
    (sym c.any_fails_at.ensures ∙ c.if-any_fails_at.true))

pub any_fails-pairs-preserved : goal.any_fails-pairs-preserved
any_fails-pairs-preserved t c =
    c.pairs.invariant ∙ any_at c.args.test c.args.pairs.now c.pairs.pair-index c.pair-item.result false (omega arith) c.pair-item.is
    (sym c.any_fails_at.ensures ∙ c.if-any_fails_at.false)

pub any_fails_at-returns : goal.any_fails_at-returns
any_fails_at-returns t c =
    let p = c.args.pair.now in
    let key : (pair_view p).0 ≡ p.key.now = search (rules, the_lemmas) in
    let value : view p.value ≡ (pair_view p).1 = search (rules, the_lemmas) in
    let some : is_nil (pair_view p).0 ≡ false = rw key (sym c.is_empty.ensures ∙ c.if-is_empty.false) in
    c.any_fails_in.ensures ∙ ap (λ v. any_fails c.args.test (walks_in v)) value ∙ at_component c.args.test (pair_view p) some
