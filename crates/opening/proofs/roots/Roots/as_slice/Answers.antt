use Rattle.std.proofs.Common.{◌∙◌}
use Rattle.opening.proofs.roots.Roots.as_slice.Goals as goal

pub returns : goal.returns
returns c = c.deref.ensures.value ∙ c.self.view_is
