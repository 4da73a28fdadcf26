use Rattle.std.proofs.Common.{rules}
use Rattle.btcheck_c.proofs.slot.Slot.full.Goals as goal

pub returns : goal.returns
returns c = search rules
