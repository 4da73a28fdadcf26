use Rattle.std.proofs.Common.{◌∙◌, [], ap, map, unwrap_or}
use Rattle.clap.specs.Matches.{found_of}
use Rattle.clap.proofs.WalkLemmas.{raw_values-rows}
use Rattle.command_line.proofs.finding.texts.Goals as goal

pub returns-in_ok-from_slice-in-Some : goal.returns-in_ok-from_slice-in-Some
returns-in_ok-from_slice-in-Some c =
    ap (map (λ t. t.now)) c.in_ok-from_slice-in-Some.ensures.items
    ∙ ap (λ texts. unwrap_or texts []) (c.in-Some.ensures ∙ raw_values-rows (found_of c.args.found.now) c.args.name.now)

pub returns-in-None : goal.returns-in-None
returns-in-None c =
    ap (map (λ t. t.now)) c.new.ensures.items
    ∙ ap (λ texts. unwrap_or texts []) (c.in-None.ensures ∙ raw_values-rows (found_of c.args.found.now) c.args.name.now)
