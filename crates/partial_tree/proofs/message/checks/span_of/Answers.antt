use Rattle.std.proofs.Common.{rules}
use Rattle.partial_tree.proofs.message.checks.span_of.Goals as goal

pub returns-then-length-span-clause-found : goal.returns-then-length-span-clause-found
returns-then-length-span-clause-found c = search rules
