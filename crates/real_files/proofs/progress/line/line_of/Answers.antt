use Rattle.real_files.proofs.progress.line.line_of.Goals as goal
use Rattle.real_files.proofs.Widths.{nothing_fits}

-- without room for the figures the line is empty
pub returns : goal.returns
returns c = nothing_fits c.new.result.bytes c.args.columns c.new.ensures
