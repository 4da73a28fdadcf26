use Rattle.std.proofs.Common.{arith, ◌≡◌, ◌∙◌, sym, refl, true, false, inl}
use Rattle.std.proofs.lemmas.Grind.{common_steps}
use Rattle.benc.specs.View.{pair_view, pairs_view}
use Rattle.benc.specs.declared.value.Value.{the_lemmas}
use Rattle.filetree.proofs.Walking.{as_bad, bad_next}
use Rattle.filetree.proofs.component.+bad_path.Goals as goal

pub has_bad_path-returns-then-has_bad_path_at : goal.has_bad_path-returns-then-has_bad_path_at
has_bad_path-returns-then-has_bad_path_at t c =
    let way = bad_next c.args.pairs.now c.pairs.pair-index c.pair-item.result (omega arith) c.pair-item.is c.pairs.invariant in
    ((λ _. way.whole (inl (c.has_bad_path_at.ensures.0 c.if-has_bad_path_at.true))), (λ _. refl))

pub has_bad_path-pairs-preserved : goal.has_bad_path-pairs-preserved
has_bad_path-pairs-preserved t c =
    let way = bad_next c.args.pairs.now c.pairs.pair-index c.pair-item.result (omega arith) c.pair-item.is c.pairs.invariant in
    as_bad (pairs_view c.args.pairs.now) _ (pair_view c.pair-item.result) way (λ bad. let no = c.if-has_bad_path_at.false in let yes =
    c.has_bad_path_at.ensures.1 bad in let never : true ≡ false = sym yes ∙ no in cc)

pub has_bad_path_in-has_bad_path-requires : goal.has_bad_path_in-has_bad_path-requires
has_bad_path_in-has_bad_path-requires t c = grind (arith, common_steps, the_lemmas)
