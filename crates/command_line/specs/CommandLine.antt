-- What the program's command line is to clap, and what it asks for. Words are the arguments as
-- texts, the program's name first; rows are what clap's definition of simple commands finds in
-- them.
use Rattle.std.specs.Prelude.{◌≡◌, ◌⊎◌, ℕ, List, [], ◌∷◌, true, false, Option, Some, None}
use Rattle.std.specs.Prelude.{codes, ◌++◌}
use Rattle.clap.specs.Walk.{Row, Rule, Text, first_of, rule_of}
use Rattle.clap.specs.Simple.{App, Shape, app_of, new_rule, new_shape, subcommand_of}
use Rattle.clap.specs.Kinds.{IsAmong}
use Rattle.clap.specs.Faults.{fault_of}
use Rattle.clap.specs.declared.builder.arg.Arg.{Arg}
use Rattle.clap.specs.declared.builder.command.Command.{Command}
use Rattle.clap.specs.declared.builder.command.Command.TheViews.{out-Command}
use Rattle.clap.specs.declared.error.kind.ErrorKind.{ErrorKind}
use Rattle.clap.specs.declared.error.kind.ErrorKind.TheVariants.{OutOfMemory}
use Rattle.clap.specs.declared.builder.action.ArgAction.TheVariants.{Append, Set, SetTrue}
use Rattle.actions.specs.declared.command.Action.{Action}
use Rattle.actions.specs.declared.command.Action.TheVariants as action
use Rattle.actions.specs.declared.command.Asked.{Asked}
use Rattle.actions.specs.declared.creation.NewTorrent.{NewTorrent}
use Rattle.command_line.specs.Found.{ArePlaces, AreTextsUnder, IsFlag, IsPartUnder, IsPieceLengthUnder, IsPlain, IsTextIfThere, IsTextUnder}
use Rattle.command_line.specs.Reasons.{IsUnaskedKind}

-- ---- the command line

-- an argument that may be there
abbrev pub possible : Text → Rule
possible name = record (new_rule name) { action = Some Set }

-- one that has to be there
abbrev pub needed : Text → Rule
needed name = record (possible name) { required = true }

-- the same, which may be there many times
abbrev pub needed_list : Text → Rule
needed_list name = record (needed name) { action = Some Append }

-- an option that is there or not
abbrev pub flag : Text → Rule
flag name = record (new_rule name) { long = Some name; action = Some SetTrue }

-- an option with a value
abbrev pub option : Text → Rule
option name =
    record (new_rule name) { long = Some name; action = Some Set; value_names = 1 }

-- the same, which may be there many times
abbrev pub list_option : Text → Rule
list_option name = record (option name) { action = Some Append }

-- an option with a value that has to be there
abbrev pub needed_option : Text → Rule
needed_option name = record (option name) { required = true }

-- an option that has this letter too
abbrev pub short : ℕ → Rule → Rule
short letter rule = record rule { short = Some letter }

-- the lines as JSON objects, `-j`
abbrev pub json_flag : Rule
json_flag = short 106 (flag (codes "json"))

-- the system's reasons
abbrev pub reasons_flag : Rule
reasons_flag = flag (codes "reasons")

-- a command with these arguments
abbrev pub command : Text → List Rule → Shape
command name rules = record (new_shape name) { rules = rules }

abbrev pub root_command : Shape
root_command = command (codes "root") (needed (codes "FILE") ∷ json_flag ∷ reasons_flag ∷ [])

abbrev pub show_command : Shape
show_command = command (codes "show")
    (needed (codes "TORRENT") ∷ flag (codes "long") ∷ json_flag ∷ reasons_flag ∷ [])

abbrev pub check_command : Shape
check_command = command (codes "check")
    (needed (codes "TORRENT") ∷ needed (codes "DIR") ∷ short 113 (flag (codes "quiet"))
    ∷ flag (codes "bad") ∷ flag (codes "extra") ∷ flag (codes "summary") ∷ option (codes "part")
    ∷ json_flag ∷ reasons_flag ∷ [])

abbrev pub join_command : Shape
join_command = command (codes "join")
    (needed (codes "TORRENT") ∷ needed_list (codes "REPORT") ∷ json_flag ∷ reasons_flag ∷ [])

abbrev pub create_command : Shape
create_command = command (codes "create")
    (needed (codes "DIR") ∷ possible (codes "OUT") ∷ option (codes "file")
    ∷ needed_option (codes "name") ∷ needed_option (codes "piece-length")
    ∷ flag (codes "hybrid") ∷ list_option (codes "exclude") ∷ flag (codes "follow-symlinks")
    ∷ flag (codes "skip-special") ∷ flag (codes "no-clobber") ∷ option (codes "part")
    ∷ reasons_flag ∷ [])

abbrev pub assemble_command : Shape
assemble_command = command (codes "assemble")
    (needed (codes "OUT") ∷ needed_list (codes "PART") ∷ reasons_flag ∷ [])

abbrev pub convert_command : Shape
convert_command = command (codes "convert")
    (needed (codes "RECORD") ∷ needed (codes "OUT") ∷ reasons_flag ∷ [])

abbrev pub replay_command : Shape
replay_command = command (codes "replay")
    (needed (codes "TORRENT") ∷ needed (codes "RECORD") ∷ flag (codes "info-only")
    ∷ option (codes "seed") ∷ short 111 (option (codes "answers")) ∷ flag (codes "padded")
    ∷ flag (codes "pieces") ∷ flag (codes "summary") ∷ json_flag ∷ reasons_flag ∷ [])

-- the program, with a version and a command that is required
abbrev pub program : App
program = record {
  top = record (new_shape (codes "btcheck")) {
    is_leaf = false;
    has_version = true;
    subcommand_required = true;
  };
  subs = root_command ∷ show_command ∷ check_command ∷ join_command ∷ create_command
      ∷ assemble_command ∷ replay_command ∷ convert_command ∷ [];
}

-- what clap reads of this command
abbrev pub IsApp : App → Command → Type 0
IsApp app c = (app_of c ≡ app) × ((out-Command c).has_globals ≡ false)

-- an argument that keeps to its command, with these rules
abbrev pub IsArgument : Rule → Arg → Type 0
IsArgument rule arg = (rule_of arg ≡ rule) × (arg.global ≡ false)

-- a command without commands below it, of this shape
abbrev pub IsLeaf : Shape → Command → Type 0
IsLeaf shape c = IsApp (record { top = shape; subs = [] }) c

-- the command with this rule for one more argument
abbrev pub with_more : Shape → Rule → Shape
with_more shape rule = record shape { rules = shape.rules ++ rule ∷ [] }

-- ---- what is asked for

-- the name of the command that does this
abbrev pub command_of : Action → Text
command_of (action.Root file json) = codes "root"
command_of (action.Show torrent json long) = codes "show"
command_of (action.Check asked) = codes "check"
command_of (action.CheckPart asked) = codes "check"
command_of (action.Join asked) = codes "join"
command_of (action.Create asked) = codes "create"
command_of (action.CreatePart asked part) = codes "create"
command_of (action.Assemble asked) = codes "assemble"
command_of (action.Replay asked) = codes "replay"
command_of (action.Convert asked) = codes "convert"

-- the texts and flags of a torrent that is to be made are what is found in the arguments
abbrev pub FindsTorrent : List Row → NewTorrent → Type 0
FindsTorrent rows asked =
    ArePlaces rows asked.origin asked.out
    × IsTextUnder (codes "name") rows asked.name
    × IsPieceLengthUnder (codes "piece-length") rows asked.piece_length
    × IsFlag (codes "hybrid") rows asked.hybrid
    × AreTextsUnder (codes "exclude") rows asked.exclude.items
    × IsFlag (codes "no-clobber") rows asked.no_clobber
    × IsFlag (codes "follow-symlinks") rows asked.follow_symlinks
    × IsFlag (codes "skip-special") rows asked.skip_special

-- the texts and flags of this action are what is found in the arguments of its command
abbrev pub FindsArguments : List Row → Action → Type 0
FindsArguments rows (action.Root file json) =
    IsTextUnder (codes "FILE") rows file × IsFlag (codes "json") rows json
FindsArguments rows (action.Show torrent json long) =
    IsTextUnder (codes "TORRENT") rows torrent × IsFlag (codes "json") rows json
    × IsFlag (codes "long") rows long
FindsArguments rows (action.Check asked) =
    IsTextUnder (codes "TORRENT") rows asked.torrent × IsTextUnder (codes "DIR") rows asked.dir
    × IsFlag (codes "quiet") rows asked.quiet × IsFlag (codes "json") rows asked.json
    × IsFlag (codes "bad") rows asked.bad × (first_of (codes "part") rows ≡ None)
    × IsFlag (codes "extra") rows asked.extra × IsFlag (codes "summary") rows asked.summary
FindsArguments rows (action.CheckPart asked) =
    IsTextUnder (codes "TORRENT") rows asked.torrent × IsTextUnder (codes "DIR") rows asked.dir
    × IsPartUnder (codes "part") rows asked.part × IsFlag (codes "bad") rows asked.bad
    × IsFlag (codes "json") rows asked.json × IsPlain rows
FindsArguments rows (action.Join asked) =
    IsTextUnder (codes "TORRENT") rows asked.torrent
    × AreTextsUnder (codes "REPORT") rows asked.reports.items
    × IsFlag (codes "json") rows asked.json
FindsArguments rows (action.Create asked) =
    FindsTorrent rows asked × (first_of (codes "part") rows ≡ None)
FindsArguments rows (action.CreatePart asked part) =
    FindsTorrent rows asked × IsPartUnder (codes "part") rows part
FindsArguments rows (action.Assemble asked) =
    IsTextUnder (codes "OUT") rows asked.out × AreTextsUnder (codes "PART") rows asked.parts.items
FindsArguments rows (action.Convert asked) =
    IsTextUnder (codes "RECORD") rows asked.record × IsTextUnder (codes "OUT") rows asked.out
FindsArguments rows (action.Replay asked) =
    IsTextUnder (codes "TORRENT") rows asked.torrent
    × IsTextUnder (codes "RECORD") rows asked.record
    × IsFlag (codes "info-only") rows asked.info_only
    × IsTextIfThere (codes "seed") rows asked.seed
    × IsTextIfThere (codes "answers") rows asked.answers
    × IsFlag (codes "padded") rows asked.padded
    × IsFlag (codes "pieces") rows asked.pieces
    × IsFlag (codes "json") rows asked.json
    × IsFlag (codes "summary") rows asked.summary

-- the command of this name, with what is found in its arguments, is this action
abbrev pub Asks : Text → List Row → Action → Type 0
Asks name rows a = (name ≡ command_of a) × FindsArguments rows a

-- what the command of this name asks for; nothing only if there is no such command, a text that it
-- needs is not found, one is found that it has not, its part or its piece length is none, or an
-- option is given that a part has not
abbrev pub IsActionOf : Text → List Row → Option Action → Type 0
IsActionOf name rows (Some a) = Asks name rows a
IsActionOf name rows None = (a : Action) → Asks name rows a → ⊥

-- the command of this name, with what is found in its arguments, asks for this
abbrev pub AsksFor : Text → List Row → Asked → Type 0
AsksFor name rows asked =
    Asks name rows asked.action × IsFlag (codes "reasons") rows asked.reasons

-- the same; nothing only if it asks for nothing
abbrev pub IsAskedFor : Text → List Row → Option Asked → Type 0
IsAskedFor name rows (Some asked) = AsksFor name rows asked
IsAskedFor name rows None = (asked : Asked) → AsksFor name rows asked → ⊥

-- a command was found, and with what was found in its arguments it asks for this
abbrev pub IsAskedIn : Option (Text × List Row) → Asked → Type 0
IsAskedIn found asked =
    (name : Text) × (rows : List Row) × (found ≡ Some (name, rows)) × AsksFor name rows asked

-- nothing is asked for
abbrev pub IsNothing : Option (Text × List Row) → Type 0
IsNothing found = (asked : Asked) → IsAskedIn found asked → ⊥

-- what was found asks for this; nothing only if it asks for nothing
abbrev pub IsAskedOf : Option (Text × List Row) → Option Asked → Type 0
IsAskedOf found (Some asked) = IsAskedIn found asked
IsAskedOf found None = IsNothing found

-- this is what clap's definition finds in these words
abbrev pub IsFoundIn : List Text → Asked → Type 0
IsFoundIn words asked = IsAskedIn (subcommand_of program words) asked

-- clap's definition has no fault to find with these words
abbrev pub AreWordsTaken : List Text → Type 0
AreWordsTaken words = fault_of program words ≡ []

-- the words are taken, and this is what is found in them
abbrev pub IsAskedBy : List Text → Asked → Type 0
IsAskedBy words asked = AreWordsTaken words × IsFoundIn words asked

-- Why these words ask for no action: out of memory; or one of the kinds that clap's definition
-- gives for their first fault, as that help is asked for; or they are taken, no action is found in
-- them, and the kind says why.
abbrev pub IsRefusalOf : List Text → ErrorKind → Type 0
IsRefusalOf words kind = ((kind ≡ OutOfMemory) ⊎ IsAmong kind (fault_of program words))
    ⊎ (AreWordsTaken words × ((asked : Asked) → IsFoundIn words asked → ⊥)
    × IsUnaskedKind (subcommand_of program words) kind)
