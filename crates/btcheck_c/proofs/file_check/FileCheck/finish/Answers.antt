use Rattle.std.proofs.Common.{true≢false, refl, sym, ◌∙◌, arith}
use Rattle.std.proofs.lemmas.Slice.Eq.{bytes_eq-Decides}
use Rattle.btcheck_c.proofs.FileVerdicts.{anew, bad_root, by_layer, good_root}
use Rattle.btcheck_c.proofs.file_check.FileCheck.finish.Goals as goal

pub returns-in-None-clause-verdict : goal.returns-in-None-clause-verdict
returns-in-None-clause-verdict c =
    let place = c.finish-place.result.2 in
    by_layer c.args.self.now c.finish-place.result.0 c.finish-place.result.1 c.args.good.now
    c.finish-place.new.good place c.numbered.result c.in-None.is c.requires c.finish-place.ensures.found c.numbered.ensures

pub returns-then-eq-clause-verdict : goal.returns-then-eq-clause-verdict
returns-then-eq-clause-verdict c =
    good_root c.args.self.now c.in-Some.root c.finish.result.0 c.finish.result.1 c.finish.new.good
    c.args.good.now c.set_bit.new.bits c.finish.result.2 c.in-Some.is c.requires c.finish.ensures.found
    ((bytes_eq-Decides c.finish.result.1 c.in-Some.root).0 (sym c.eq.ensures ∙ c.if-eq.true))
    c.set_bit.ensures.size (λ some. c.set_bit.ensures.set (omega (arith, some))) c.set_bit.ensures.others

pub returns-else-eq-clause-verdict : goal.returns-else-eq-clause-verdict
returns-else-eq-clause-verdict c =
    bad_root c.args.self.now c.in-Some.root c.finish.result.0 c.finish.result.1 c.finish.new.good
    c.args.good.now c.finish.result.2 c.in-Some.is c.requires c.finish.ensures.found
    (λ is. true≢false (sym ((bytes_eq-Decides c.finish.result.1 c.in-Some.root).1 is) ∙ sym c.eq.ensures ∙ c.if-eq.false))

pub returns-in-None-clause-begins : goal.returns-in-None-clause-begins
returns-in-None-clause-begins c = anew c.args.self.now _ refl refl c.finish-place.ensures.anew

pub returns-then-eq-clause-begins : goal.returns-then-eq-clause-begins
returns-then-eq-clause-begins c = anew c.args.self.now _ refl refl c.finish.ensures.anew

pub returns-else-eq-clause-begins : goal.returns-else-eq-clause-begins
returns-else-eq-clause-begins c = anew c.args.self.now _ refl refl c.finish.ensures.anew
