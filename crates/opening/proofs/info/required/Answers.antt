use Rattle.std.proofs.Common.{◌≡◌, Some, None, sym, subst, ◌∙◌, refl}
use Rattle.benc.specs.View.{view}
use Rattle.filetree.specs.Dictionary.{get}
use Rattle.opening.proofs.info.required.Goals as goal

pub returns-in-Some : goal.returns-in-Some
returns-in-Some c =
    subst (λ key. get key (view c.args.v.now) ≡ Some (view c.in-Some.value.now)) (c.as_bytes.ensures.value ∙ c.text.ensures) (sym c.in-Some.ensures)

pub returns-in-None : goal.returns-in-None
returns-in-None c = (subst (λ key. get key (view c.args.v.now) ≡ None) (c.as_bytes.ensures.value ∙ c.text.ensures) (sym c.in-None.ensures), refl)
