use Rattle.std.proofs.Common.{rules}
use Rattle.opening.proofs.open.info_hash_v2.Goals as goal

pub returns : goal.returns
returns c = search rules
