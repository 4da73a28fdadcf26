use Rattle.std.proofs.Common.{rules}
use Rattle.partial_tree.proofs.refusal.HashRefusal.number.Goals as goal

pub returns-in-Unanchored : goal.returns-in-Unanchored
returns-in-Unanchored c = search rules
