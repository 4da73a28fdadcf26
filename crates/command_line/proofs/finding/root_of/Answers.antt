use Rattle.std.proofs.Common.{codes, refl}
use Rattle.clap.specs.Matches.{found_of}
use Rattle.clap.specs.Walk.{rows_of}
use Rattle.command_line.proofs.CommandLine.{needs_text}
use Rattle.command_line.proofs.finding.root_of.Goals as goal

pub returns-in_err-file : goal.returns-in_err-file
returns-in_err-file c = rw c.from_residual.ensures (needs_text (codes "root") (codes "FILE") (rows_of (found_of c.args.found.now)) refl (c.in_err-file.ensures))
