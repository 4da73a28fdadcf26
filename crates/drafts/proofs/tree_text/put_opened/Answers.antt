use Rattle.std.proofs.Common.{◌≡◌, ◌+◌, [], ◌∷◌, ◌++◌, drop, map, refl, sym, ap, ◌∙◌, append_assoc, arith}
use Rattle.std.proofs.lemmas.List.{drop_more}
use Rattle.std.proofs.Math.ListN.{drop_of_length-le}
use Rattle.std.specs.String.{string_bytes}
use Rattle.benc.specs.Spelling.{string}
use Rattle.drafts.specs.TreeText.{opened}
use Rattle.drafts.proofs.Penned.{put_all, put_both, put_on, put_start}
use Rattle.drafts.proofs.tree_text.put_opened.Goals as goal

pub names-init : goal.names-init
names-init g c = put_start _ _ refl

pub names-preserved : goal.names-preserved
names-preserved g c =
    let l = c.names in
    let xs = c.args.names.now in
    let x = c.name-item.result in
    let later = opened (map string_bytes (drop (l.name-index + 1) xs)) in
    let here : drop l.name-index xs ≡ x ∷ drop (l.name-index + 1) xs = drop_more xs l.name-index x (omega arith)
    ∙ ap (λ y. y ∷ drop (l.name-index + 1) xs) (sym c.name-item.is) in
    let name = c.as_bytes.result.now in
    put_on later l.invariant (put_both c.put_string.ensures c.put.ensures)
    (ap (λ ys. opened (map string_bytes ys)) here ∙ ap (λ s. string s ++ 100 ∷ later) (sym c.as_bytes.ensures.value)
    ∙ sym (append_assoc (string name) (100 ∷ []) later))

pub returns : goal.returns
returns g c = put_all c.names.invariant (ap (λ ys. opened (map string_bytes ys)) (drop_of_length-le c.args.names.now (omega arith)))
