use Rattle.std.proofs.Common.{rules}
use Rattle.partial_tree.proofs.message.checks.pad_fits.Goals as goal

pub returns-then-start-blocks-clause-fits : goal.returns-then-start-blocks-clause-fits
returns-then-start-blocks-clause-fits c = search rules
