use Rattle.std.proofs.Common.{rules}
use Rattle.opening.proofs.version1.aligned_length.Goals as goal

pub returns : goal.returns
returns c = search rules
