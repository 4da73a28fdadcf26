-- What clap reads of a command of the table, and of its arguments.
use Rattle.std.specs.Prelude.{Bool, true, false, Some, map}
use Rattle.std.specs.Borrow.{Bor}
use Rattle.clap.specs.Walk.{Rule, Text}
use Rattle.clap.specs.Simple.{Shape, new_rule}
use Rattle.clap.specs.declared.builder.action.ArgAction.{ArgAction}
use Rattle.clap.specs.declared.builder.action.ArgAction.TheVariants.{Append, Set, SetTrue}
use Rattle.command_line.specs.CommandLine.{command, short}
use Rattle.command_line.specs.declared.definition.Kind.{Kind}
use Rattle.command_line.specs.declared.definition.Kind.TheVariants as kind
use Rattle.command_line.specs.declared.definition.Subcommand.{Subcommand}
use Rattle.command_line.specs.declared.definition.Times.{Times}
use Rattle.command_line.specs.declared.definition.Times.TheVariants as times

-- whether an argument has to be there
abbrev pub needs : Times → Bool
needs times.AtMostOnce = false
needs times.Once = true
needs times.AtLeastOnce = true
needs times.Any = false

-- what becomes of its values
abbrev pub action_for : Times → ArgAction
action_for times.AtMostOnce = Set
action_for times.Once = Set
action_for times.AtLeastOnce = Append
action_for times.Any = Append

-- a word that is there so often
abbrev pub word : Text → Times → Rule
word name times =
    record (new_rule name) { required = needs times; action = Some (action_for times) }

-- an option without a value
abbrev pub flagged : Text → Times → Rule
flagged name times = record (word name times) { long = Some name; action = Some SetTrue }

-- an option with a text
abbrev pub valued : Text → Times → Rule
valued name times = record (word name times) { long = Some name; value_names = 1 }

-- the rules of an argument of this name and kind that is there so often
abbrev pub rule_for : Text → Kind → Times → Rule
rule_for name kind.Word times = word name times
rule_for name kind.Flag times = flagged name times
rule_for name (kind.ShortFlag letter) times = short letter (flagged name times)
rule_for name (kind.Text value) times = valued name times
rule_for name (kind.ShortText letter value) times = short letter (valued name times)

-- the rules of an argument of the table
abbrev pub rule_of_row : Bor Text × Kind × Times × Bor Text → Rule
rule_of_row row = rule_for row.0.now row.1 row.2

-- the shape of a command of the table
abbrev pub leaf_of : Subcommand → Shape
leaf_of row = command row.name.now (map rule_of_row row.arguments.now)
