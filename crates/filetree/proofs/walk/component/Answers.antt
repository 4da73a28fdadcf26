use Rattle.std.proofs.Common.{inr}
use Rattle.filetree.proofs.walk.component.Goals as goal

pub returns : goal.returns
returns c = c.in-Ok.ensures.cases.0

pub unreachable-requires : goal.unreachable-requires
unreachable-requires c = c.requires (inr (inr (inr (inr c.in-Err.ensures.cases.0))))
