use Rattle.std.proofs.Common.{subst, sym}
use Rattle.clap.specs.Matches.{found_of}
use Rattle.clap.specs.Walk.{rows_of}
use Rattle.clap.specs.declared.parser.matches.ArgMatches.TheViews.{out-ArgMatches}
use Rattle.command_line.specs.Reasons.{IsWhy}
use Rattle.command_line.proofs.CommandLine.{both_found}
use Rattle.command_line.proofs.unasked.why_unasked.Goals as goal

pub returns-in-Some : goal.returns-in-Some
returns-in-Some c =
    let found = both_found (out-ArgMatches c.args.matches.now).subcommand c.in-Some.name.now (rows_of (found_of c.in-Some.found.now))
    (sym c.in-Some.ensures.name) (sym c.in-Some.ensures.rows) in
    subst (λ f. IsWhy f c.why_of.result) (sym found) c.why_of.ensures
