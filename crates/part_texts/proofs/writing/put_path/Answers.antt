use Rattle.std.proofs.Common.{◌≡◌, ◌∙◌, ◌<◌, [], ap, arith, get_or, length, map, subst, sym}
use Rattle.std.proofs.lemmas.Grind.{common_steps}
use Rattle.std.proofs.lemmas.List.{get_or-map, length-map}
use Rattle.std.specs.String.{string_bytes}
use borrow.Author.Count.{below_more}
use Rattle.part_texts.specs.Readings.{IsText}
use Rattle.part_texts.proofs.writing.put_path.Goals as goal

pub parts-preserved : goal.parts-preserved
parts-preserved c =
    let lt : c.parts.part-index < length c.args.path.now = omega arith in
    let here : c.as_str.result.now ≡ get_or (map string_bytes c.args.path.now) c.parts.part-index [] =
    c.as_str.ensures.value ∙ ap string_bytes c.part-item.is
    ∙ sym (get_or-map string_bytes c.args.path.now c.parts.part-index c.part-item.result [] lt) in
    record {
      put = grind (arith, common_steps);
      texts = below_more _ _ c.parts.invariant.texts (subst IsText here c.put_text.ensures.can);
    }

pub returns-clause-can : goal.returns-clause-can
returns-clause-can c = record {
  few = omega (arith, length-map c.args.path.now string_bytes);
  texts = λ i lt. c.parts.invariant.texts i (omega (arith, lt, length-map c.args.path.now string_bytes, c.parts-test.false));
}
