use Rattle.std.proofs.Common.{refl, sym, subst}
use Rattle.drafts.specs.Adding.{ReusesRoot}
use Rattle.drafts.proofs.Kept.{reuses}
use Rattle.drafts.proofs.draft.Draft.test_root.Goals as goal

pub returns-in-Some : goal.returns-in-Some
returns-in-Some c = (
  refl,
  subst (λ d. ReusesRoot d c.args.length c.args.root.now) c.self.view_is
      (reuses _ c.self.inside.roots.entries c.args.length c.args.root.now c.in-Some.kept.now c.self.invariant.0.roots (sym c.in-Some.ensures.value)
      c.if-length-gt0.true c.if-kept-length.true),
)
