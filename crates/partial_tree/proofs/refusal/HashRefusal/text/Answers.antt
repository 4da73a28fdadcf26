use Rattle.std.proofs.Common.{rules}
use Rattle.partial_tree.proofs.refusal.HashRefusal.text.Goals as goal

pub returns-in-UnknownRoot : goal.returns-in-UnknownRoot
returns-in-UnknownRoot c = search rules
