use Rattle.std.proofs.Common.{◌∙◌}
use Rattle.clap.specs.Matches.{found_of}
use Rattle.clap.proofs.WalkLemmas.{one_text-rows}
use Rattle.command_line.proofs.finding.is_given.Goals as goal

pub returns : goal.returns
returns c =
    let read = one_text-rows (found_of c.args.found.now) c.args.name.now in (
      λ e. c.get_flag.ensures.value (read ∙ e),
      λ e. c.get_flag.ensures.other (read ∙ e),
      λ e. c.get_flag.ensures.none (read ∙ e),
    )
