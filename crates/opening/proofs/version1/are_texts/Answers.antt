use Rattle.std.proofs.Common.{◌∙◌, sym, arith}
use Rattle.opening.proofs.Entries.{texts_yes, texts_no, texts_short, texts_end}
use Rattle.opening.proofs.version1.are_texts.Goals as goal

pub returns-then-next-texts : goal.returns-then-next-texts
returns-then-next-texts c =
    sym (c.values.invariant.same ∙ texts_short c.args.values.now c.values.value-index c.value-item.result c.args.texts.now c.values.next c.values-test.true
    c.value-item.is (omega arith))

pub returns-then-not-is_text : goal.returns-then-not-is_text
returns-then-not-is_text c =
    sym (c.values.invariant.same
    ∙ texts_no c.args.values.now c.values.value-index c.value-item.result c.args.texts.now c.values.next _ c.is_text.result c.values-test.true c.value-item.is
    (omega arith) c.is_text.ensures c.if-not-is_text.true)

pub values-preserved : goal.values-preserved
values-preserved c = record {
  within = omega arith;
  same = c.values.invariant.same
      ∙ texts_yes c.args.values.now c.values.value-index c.value-item.result c.args.texts.now c.values.next _ c.is_text.result c.values-test.true
      c.value-item.is (omega arith) c.is_text.ensures c.if-not-is_text.false;
}

pub returns : goal.returns
returns c = texts_end c.args.values.now c.values.value-index c.args.texts.now c.values.next (omega arith) c.values.invariant.within
    ∙ sym c.values.invariant.same
