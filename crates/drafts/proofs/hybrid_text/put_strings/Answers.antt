use Rattle.std.proofs.Common.{◌≡◌, ◌+◌, ◌∷◌, ◌++◌, drop, map, refl, sym, ap, ◌∙◌, arith}
use Rattle.std.proofs.lemmas.List.{drop_more}
use Rattle.std.proofs.Math.ListN.{drop_of_length-le}
use Rattle.std.specs.String.{string_bytes}
use Rattle.benc.specs.Spelling.{string}
use Rattle.benc.specs.Text.{items_spelling}
use Rattle.drafts.specs.Written.{texts_value}
use Rattle.drafts.proofs.Penned.{put_all, put_on, put_start}
use Rattle.drafts.proofs.hybrid_text.put_strings.Goals as goal

pub parts-init : goal.parts-init
parts-init g c = put_start _ _ refl

pub parts-preserved : goal.parts-preserved
parts-preserved g c =
    let l = c.parts in
    let xs = c.args.parts.now in
    let x = c.part-item.result in
    let later = items_spelling (texts_value (map string_bytes (drop (l.part-index + 1) xs))) in
    let here : drop l.part-index xs ≡ x ∷ drop (l.part-index + 1) xs = drop_more xs l.part-index x (omega arith)
    ∙ ap (λ y. y ∷ drop (l.part-index + 1) xs) (sym c.part-item.is) in
    put_on later l.invariant c.put_string.ensures
    (ap (λ ys. items_spelling (texts_value (map string_bytes ys))) here ∙ ap (λ s. string s ++ later) (sym c.as_bytes.ensures.value))

pub returns : goal.returns
returns g c = put_all c.parts.invariant (ap (λ ys. items_spelling (texts_value (map string_bytes ys))) (drop_of_length-le c.args.parts.now (omega arith)))
