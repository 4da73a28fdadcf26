use Rattle.std.proofs.Common.{rules}
use Rattle.printing.proofs.text.ShortLine.put.Goals as goal

pub returns-clause-text : goal.returns-clause-text
returns-clause-text c = search rules
