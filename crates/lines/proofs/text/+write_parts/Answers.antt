use Rattle.std.proofs.Common.{◌≡◌, ◌∷◌, ◌++◌, ◌∙◌, List, ℕ, map, ap, refl, sym}
use Rattle.std.proofs.lemmas.Result.{err_from_is_err_and}
use Rattle.benc.proofs.Out.{Wrote-then, Wrote-part}
use Rattle.lines.specs.declared.part.Part.{Part}
use Rattle.lines.specs.Rows.{item_of}
use Rattle.lines.specs.Texts.{after_part, item_text, items_text}
use Rattle.lines.proofs.text.+write_parts.Goals as goal

-- the first part, what stands behind it, and the others
next : (parts others : List Part) (part : Part) (behind : List ℕ) → parts ≡ part ∷ others → behind ≡ after_part (item_of part) (map item_of others)
    → items_text (map item_of parts) ≡ item_text (item_of part) ++ (behind ++ items_text (map item_of others))
unfolding items_text
next parts others part behind is e =
    ap (λ ps. items_text (map item_of ps)) is ∙ ap (λ b. item_text (item_of part) ++ (b ++ items_text (map item_of others))) (sym e)

pub returns-in_err-write_part : goal.returns-in_err-write_part
returns-in_err-write_part g t c =
    let p = err_from_is_err_and c.from_residual.result c.from_residual.ensures.1 in
    Wrote-part _ p.0 _ _ (item_text (item_of c.in-Some.part.now)) _ _
    (next c.args.parts.now c.in-Some.others.now c.in-Some.part.now _ c.in-Some.ensures.cases.0 refl) p.1 c.in_err-write_part.ensures

pub returns-in_err-write_all : goal.returns-in_err-write_all
returns-in_err-write_all g t c =
    let p = err_from_is_err_and c.from_residual-in_err-write_all.result c.from_residual-in_err-write_all.ensures.1 in
    Wrote-then _ _ _ _ (item_text (item_of c.in-Some.part.now)) _ _
    (next c.args.parts.now c.in-Some.others.now c.in-Some.part.now c.behind.result.now c.in-Some.ensures.cases.0 c.behind.ensures) c.in_ok-write_part.ensures
    (Wrote-part _ p.0 _ _ c.behind.result.now _ _ refl p.1 c.in_err-write_all.ensures)

pub returns : goal.returns
returns g t c =
    Wrote-then _ _ _ _ (item_text (item_of c.in-Some.part.now)) _ _
    (next c.args.parts.now c.in-Some.others.now c.in-Some.part.now c.behind.result.now c.in-Some.ensures.cases.0 c.behind.ensures) c.in_ok-write_part.ensures
    (Wrote-then _ _ _ _ c.behind.result.now _ _ refl c.in_ok-write_all.ensures c.write_parts.ensures)
