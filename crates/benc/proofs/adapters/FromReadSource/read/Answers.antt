use Rattle.std.proofs.Common.{rules}
use Rattle.benc.proofs.adapters.FromReadSource.read.Goals as goal

pub returns-then-self-clause-counts : goal.returns-then-self-clause-counts
returns-then-self-clause-counts g c = search rules
