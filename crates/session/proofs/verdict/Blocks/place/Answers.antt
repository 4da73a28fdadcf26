use Rattle.std.proofs.Common.{rules}
use Rattle.session.proofs.verdict.Blocks.place.Goals as goal

pub returns : goal.returns
returns c = search rules
