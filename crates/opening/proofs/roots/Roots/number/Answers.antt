use Rattle.std.proofs.Common.{◌≡◌, subst, ◌∙◌}
use Rattle.opening.specs.Trees.{place_in}
use Rattle.opening.proofs.roots.Roots.number.Goals as goal

pub returns : goal.returns
returns c =
    subst (λ ts. c.copied.result ≡ place_in ts c.args.root.now) c.self.view_is (c.copied.ensures ∙ c.get.ensures.value ∙ c.self.invariant c.args.root.now)
