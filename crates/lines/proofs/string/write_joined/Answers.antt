use Rattle.std.proofs.Common.{◌∙◌, ap, map, refl}
use Rattle.std.proofs.lemmas.Result.{err_from_is_err_and}
use Rattle.benc.proofs.Out.{Wrote-part}
use Rattle.printing.proofs.Parts.{sent_fault, sent_next}
use Rattle.lines.specs.Strings.{string_bytes}
use Rattle.lines.proofs.Spelled.{from_first, joined_rest, next_part}
use Rattle.lines.proofs.string.write_joined.Goals as goal

pub returns-in_err-write_inside : goal.returns-in_err-write_inside
returns-in_err-write_inside g c =
    let text = c.as_bytes.result.now in
    let is = c.as_bytes.ensures.value ∙ c.as_str.ensures in
    let all = from_first g.S.AsStr.text c.args.path.now c.in-Some.others.now c.in-Some.first.now text c.in-Some.ensures.cases.0 is in
    let p = err_from_is_err_and c.from_residual.result c.from_residual.ensures.1 in
    Wrote-part _ p.0 _ _ (string_bytes text) (joined_rest (map g.S.AsStr.text c.in-Some.others.now)) _ all p.1 c.in_err-write_inside.ensures

pub parts-init : goal.parts-init
parts-init g c =
    let text = c.as_bytes.result.now in
    let is = c.as_bytes.ensures.value ∙ c.as_str.ensures in (
      string_bytes text,
      from_first g.S.AsStr.text c.args.path.now c.in-Some.others.now c.in-Some.first.now text c.in-Some.ensures.cases.0 is,
      c.in_ok-write_inside.ensures,
    )

pub returns-in_err-write_all : goal.returns-in_err-write_all
returns-in_err-write_all g c =
    let next = next_part g.S.AsStr.text c.in-Some.others.now c.parts.part-index c.part-item.result _ c.parts-test.true refl in
    let p = err_from_is_err_and c.from_residual-in_err-write_all.result c.from_residual-in_err-write_all.ensures.1 in
    sent_fault _ p.0 _ _ _ _ _ _ _ c.parts.invariant next p.1 c.in_err-write_all.ensures

pub returns-in_err-write_inside-2 : goal.returns-in_err-write_inside-2
returns-in_err-write_inside-2 g c =
    let next = next_part g.S.AsStr.text c.in-Some.others.now c.parts.part-index c.part-item.result c.as_bytes-in-parts.result.now c.parts-test.true
    (c.as_bytes-in-parts.ensures.value ∙ c.as_str-in-parts.ensures ∙ ap g.S.AsStr.text c.part-item.is) in
    let p = err_from_is_err_and c.from_residual-in_err-write_inside-2.result c.from_residual-in_err-write_inside-2.ensures.1 in
    sent_fault _ p.0 _ _ _ _ _ _ _ (sent_next _ _ _ _ _ _ _ c.parts.invariant next c.in_ok-write_all.ensures) refl p.1 c.in_err-write_inside-2.ensures

pub parts-preserved : goal.parts-preserved
parts-preserved g c =
    let next = next_part g.S.AsStr.text c.in-Some.others.now c.parts.part-index c.part-item.result c.as_bytes-in-parts.result.now c.parts-test.true
    (c.as_bytes-in-parts.ensures.value ∙ c.as_str-in-parts.ensures ∙ ap g.S.AsStr.text c.part-item.is) in
    sent_next _ _ _ _ _ _ _ (sent_next _ _ _ _ _ _ _ c.parts.invariant next c.in_ok-write_all.ensures) refl c.in_ok-write_inside-2.ensures
