use Rattle.std.proofs.Common.{◌≡◌, ℕ, List, ◌+◌, ◌<◌, [], ◌∷◌, get_or, length, ◌++◌, drop, map, refl, sym, ap, ◌∙◌, arith}
use Rattle.std.proofs.lemmas.Result.{err_from_is_err_and}
use Rattle.benc.proofs.Out.{Wrote-part}
use Rattle.printing.specs.Ascii.{slash}
use Rattle.printing.specs.Text.{escaped, path_text}
use Rattle.printing.proofs.Escapes.{path_text-cons, tail_text}
use Rattle.printing.proofs.Parts.{item_next, sent_fault, sent_next}
use Rattle.printing.proofs.text.write_path.Goals as goal

-- a path whose first component is this text
from_first : {S : Type 0} (text_of : S → List ℕ) (path : List S) (first : S) (others : List S) (text : List ℕ) → path ≡ first ∷ others → text ≡ text_of first
    → path_text (map text_of path) ≡ escaped text ++ tail_text (map text_of others)
from_first text_of path first others text is same =
    ap (λ ps. path_text (map text_of ps)) is ∙ path_text-cons (text_of first) (map text_of others)
    ∙ ap (λ t. escaped t ++ tail_text (map text_of others)) (sym same)

-- the component at an index, and those after it
next_part : {S : Type 0} (text_of : S → List ℕ) (parts : List S) (i : ℕ) (part : S) (text : List ℕ) → i < length parts → part ≡ get_or parts i part
    → text ≡ text_of part
    → tail_text (map text_of (drop i parts)) ≡ (slash ∷ []) ++ (escaped text ++ tail_text (map text_of (drop (i + 1) parts)))
next_part text_of parts i part text lt there is =
    ap (λ ps. tail_text (map text_of ps)) (item_next parts i part lt there)
    ∙ ap (λ t. slash ∷ (escaped t ++ tail_text (map text_of (drop (i + 1) parts)))) (sym is)

pub returns-in_err-write_escaped : goal.returns-in_err-write_escaped
returns-in_err-write_escaped g c =
    let text = c.as_bytes.result.now in
    let all = from_first g.S.AsStr.text c.args.path.now c.in-Some.first.now c.in-Some.others.now text c.in-Some.ensures.cases.0 (c.as_bytes.ensures.value
    ∙ c.as_str.ensures) in
    let p = err_from_is_err_and c.from_residual.result c.from_residual.ensures.1 in
    Wrote-part _ p.0 _ _ (escaped text) (tail_text (map g.S.AsStr.text c.in-Some.others.now)) _ all p.1 c.in_err-write_escaped.ensures

pub parts-init : goal.parts-init
parts-init g c =
    let text = c.as_bytes.result.now in (
      escaped text,
      from_first g.S.AsStr.text c.args.path.now c.in-Some.first.now c.in-Some.others.now text c.in-Some.ensures.cases.0 (c.as_bytes.ensures.value
          ∙ c.as_str.ensures),
      c.in_ok-write_escaped.ensures,
    )

pub returns-in_err-write_all : goal.returns-in_err-write_all
returns-in_err-write_all g c =
    let next = next_part g.S.AsStr.text c.in-Some.others.now c.parts.part-index c.part-item.result _ (omega arith) c.part-item.is refl in
    let p = err_from_is_err_and c.from_residual-in_err-write_all.result c.from_residual-in_err-write_all.ensures.1 in
    sent_fault _ p.0 _ _ _ _ _ _ _ c.parts.invariant next p.1 c.in_err-write_all.ensures

pub returns-in_err-write_escaped-2 : goal.returns-in_err-write_escaped-2
returns-in_err-write_escaped-2 g c =
    let is = c.as_bytes-in-parts.ensures.value ∙ c.as_str-in-parts.ensures in
    let next = next_part g.S.AsStr.text c.in-Some.others.now c.parts.part-index c.part-item.result c.as_bytes-in-parts.result.now (omega arith) c.part-item.is
    is in
    let p = err_from_is_err_and c.from_residual-in_err-write_escaped-2.result c.from_residual-in_err-write_escaped-2.ensures.1 in
    sent_fault _ p.0 _ _ _ _ _ _ _ (sent_next _ _ _ _ _ _ _ c.parts.invariant next c.in_ok-write_all.ensures) refl p.1 c.in_err-write_escaped-2.ensures

pub parts-preserved : goal.parts-preserved
parts-preserved g c =
    let is = c.as_bytes-in-parts.ensures.value ∙ c.as_str-in-parts.ensures in
    let next = next_part g.S.AsStr.text c.in-Some.others.now c.parts.part-index c.part-item.result c.as_bytes-in-parts.result.now (omega arith) c.part-item.is
    is in
    sent_next _ _ _ _ _ _ _ (sent_next _ _ _ _ _ _ _ c.parts.invariant next c.in_ok-write_all.ensures) refl c.in_ok-write_escaped-2.ensures
