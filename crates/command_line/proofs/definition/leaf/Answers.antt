use Rattle.std.proofs.Common.{map, subst, take_all}
use Rattle.command_line.specs.CommandLine.{IsLeaf, command}
use Rattle.command_line.specs.Table.{rule_of_row}
use Rattle.command_line.proofs.Building.{add_row, set_about, set_after_help}
use Rattle.command_line.proofs.definition.leaf.Goals as goal

pub loop-name-init : goal.loop-name-init
loop-name-init c =
    let about = set_about c.new.result c.about.result c.in_short.result _ c.about.ensures (c.new.ensures.app, c.new.ensures.local) in
    set_after_help c.about.result c.after_help-command.result c.at_length.result _ c.after_help-command.ensures about

pub loop-name-preserved : goal.loop-name-preserved
loop-name-preserved c =
    add_row rule_of_row c.loop-name.command c.in_ok-command.command c.arg.result c.args.row.now.name.now c.args.row.now.arguments.now
    c.loop-name.name-index _ c.loop-name-test.true c.loop-name.invariant c.arg.ensures c.in_ok-command.ensures

pub returns : goal.returns
returns c =
    subst (λ rows. IsLeaf (command c.args.row.now.name.now (map rule_of_row rows)) c.loop-name.command)
    (take_all c.loop-name.name-index c.args.row.now.arguments.now c.loop-name-test.false) c.loop-name.invariant
