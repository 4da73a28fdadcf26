use Rattle.std.proofs.Common.{inr, subst}
use Rattle.clap.specs.Simple.{subcommand_rows_of}
use Rattle.command_line.specs.CommandLine.{IsAskedOf}
use Rattle.command_line.proofs.arguments.action_in.Goals as goal

pub returns-in-Some-clause-asked : goal.returns-in-Some-clause-asked
returns-in-Some-clause-asked c = subst (IsAskedOf (subcommand_rows_of c.args.matches.now)) c.in-Some.is c.in_ok-asked.ensures

pub returns-in_ok-unasked_error-in-None-clause-refused : goal.returns-in_ok-unasked_error-in-None-clause-refused
returns-in_ok-unasked_error-in-None-clause-refused c =
    let none = subst (IsAskedOf (subcommand_rows_of c.args.matches.now)) c.in-None.is c.in_ok-asked.ensures in
    inr (c.in_ok-unasked_error-in-None.ensures, none)
