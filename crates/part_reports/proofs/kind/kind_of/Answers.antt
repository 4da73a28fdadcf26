use Rattle.std.proofs.Common.{◌≡◌, ◌<◌, Bor, List, ℕ, [], get_or, map, length, sym, subst, ◌∙◌, refl, arith}
use Rattle.std.proofs.lemmas.Bool.{eq-eqb, eqb-true}
use Rattle.std.proofs.lemmas.List.{length-map}
use Rattle.std.proofs.lemmas.Option.{same_Some, slice_get_within}
use Rattle.chains.proofs.Cases.{above_zero}
use Rattle.part_reports.specs.Heads.{IsOfHash}
use Rattle.part_reports.specs.declared.kind.Kind.TheVariants.{Marked}
use Rattle.part_reports.proofs.Reports.{text_there}
use Rattle.part_reports.proofs.kind.kind_of.Goals as goal

pub returns-then-is_empty : goal.returns-then-is_empty
returns-then-is_empty c = λ has.
    let texts = c.args.texts.now in
    let within = slice_get_within (map (λ x. x.now) texts) 0 has.0 has.1 in
    let empty = eqb-true (length texts) 0 (sym c.if-is_empty.ensures) in
    omega (arith, within, length-map texts (λ x. x.now), empty)

pub returns-in-Some : goal.returns-in-Some
returns-in-Some c =
    let texts = c.args.texts.now in
    let none : Bor (List ℕ) = record { ref_ptr = (0, 0); now = [] } in
    let off = c.if-is_empty.ensures in
    let some : 0 < length texts = above_zero (length texts) (λ empty. let on = eq-eqb (length texts) 0 empty in (let x : ⊥ = cc in x)) in
    let head = c.in-Some.field-0 in
    let text : List ℕ = (get_or texts 0 none).now in
    (text, text_there texts 0 none text some refl, head.part, head.count, head.hash, c.in-Some.ensures)

pub returns-in-None : goal.returns-in-None
returns-in-None c = λ has.
    let texts = c.args.texts.now in
    let none : Bor (List ℕ) = record { ref_ptr = (0, 0); now = [] } in
    let within = slice_get_within (map (λ x. x.now) texts) 0 has.0 has.1 in
    let text : List ℕ = (get_or texts 0 none).now in
    let at = text_there texts 0 none text (omega (arith, within, length-map texts (λ x. x.now))) refl in
    let same : has.0 ≡ text = same_Some has.0 text (sym has.1 ∙ at) in
    c.in-None.ensures has.2 has.3 has.4 (subst (λ x. IsOfHash Marked x has.2 has.3 has.4) same has.5)
