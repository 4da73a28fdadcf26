use Rattle.std.specs.Prelude.{IfOk}
use Rattle.std.proofs.Common.{Err, List, Ok, Result, subst}
use Rattle.std.specs.List.{AllZip}
use Rattle.clap.specs.Built.{AddsInTurn, AddsSubcommand}
use Rattle.clap.specs.declared.builder.command.Command.{Command}
use Rattle.command_line.specs.CommandLine.{IsApp, IsLeaf, program}
use Rattle.command_line.proofs.Building.{add_leaves, set_about, set_after_help, set_after_long_help, set_subcommand_required, set_version, start}
use Rattle.command_line.proofs.definition.command.Goals as goal

-- with all its commands the command is the program's
whole : {E : Type 0} (made : Result Command E) (begun : Command) (leaves : List Command)
    → IsApp start begun → AllZip IsLeaf program.subs leaves
    → IfOk made (AddsInTurn AddsSubcommand begun leaves) → IfOk made (IsApp program)
whole (Ok new) begun leaves is all adds = add_leaves begun new start program.subs leaves is all adds
whole (Err e) begun leaves is all adds = tt

pub returns : goal.returns
returns c =
    let version = set_version c.new.result c.version.result _ _ c.version.ensures (c.new.ensures.app, c.new.ensures.local) in
    let about = set_about c.version.result c.about.result _ _ c.about.ensures version in
    let help = set_after_help c.about.result c.after_help.result _ _ c.after_help.ensures about in
    let long_help = set_after_long_help c.after_help.result c.after_long_help.result _ _ c.after_long_help.ensures help in
    let begun = set_subcommand_required c.after_long_help.result c.subcommand_required.result _ c.subcommand_required.ensures long_help in
    whole c.subcommands.result c.subcommand_required.result c.in_ok-leaves.leaves.items begun
    (subst (λ shapes. AllZip IsLeaf shapes c.in_ok-leaves.leaves.items) c.rows.ensures c.in_ok-leaves.ensures) c.subcommands.ensures
