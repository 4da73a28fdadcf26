use Rattle.std.proofs.Common.{codes, refl}
use Rattle.clap.specs.Matches.{found_of}
use Rattle.clap.specs.Walk.{rows_of}
use Rattle.command_line.proofs.CommandLine.{needs_text}
use Rattle.command_line.proofs.finding.assemble_of.Goals as goal

pub returns-in_err-out : goal.returns-in_err-out
returns-in_err-out c = rw c.from_residual.ensures (needs_text (codes "assemble") (codes "OUT") (rows_of (found_of c.args.found.now)) refl
    (c.in_err-out.ensures))
