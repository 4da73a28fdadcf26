use Rattle.std.proofs.Common.{sym}
use Rattle.clap.specs.Matches.{found_of}
use Rattle.clap.specs.Simple.{subcommand_rows_of}
use Rattle.clap.specs.Walk.{rows_of}
use Rattle.clap.specs.declared.parser.matches.ArgMatches.TheViews.{out-ArgMatches}
use Rattle.command_line.proofs.CommandLine.{asked_if, both_found}
use Rattle.command_line.proofs.finding.asked_in.Goals as goal

pub returns-in-Some : goal.returns-in-Some
returns-in-Some c =
    let matches = c.args.matches.now in
    let name = c.in-Some.name.now in
    let rows = rows_of (found_of c.in-Some.found.now) in
    let found = both_found (out-ArgMatches matches).subcommand name rows
    (sym c.in-Some.ensures.name) (sym c.in-Some.ensures.rows) in
    asked_if (subcommand_rows_of matches) name rows c.asked_of.result found c.asked_of.ensures
