-- Why arguments that clap takes ask for no action, and of what kind the error is that says so.
use Rattle.std.specs.Prelude.{◌≡◌, ◌≢◌, List, Option, Some, None, codes}
use Rattle.std.specs.Borrow.{Bor}
use Rattle.clap.specs.Walk.{Row, Text, first_of}
use Rattle.clap.specs.declared.error.kind.ErrorKind.{ErrorKind}
use Rattle.clap.specs.declared.error.kind.ErrorKind.TheVariants.{ArgumentConflict, MissingRequiredArgument, MissingSubcommand, ValueValidation}
use Rattle.actions.specs.declared.command.NumberedPart.{NumberedPart}
use Rattle.actions.specs.declared.creation.PieceLengthChoice.{PieceLengthChoice}
use Rattle.command_line.specs.Found.{IsPlain}
use Rattle.command_line.specs.Lengths.{IsPieceLengthText}
use Rattle.command_line.specs.PartTexts.{NamesPart}
use Rattle.command_line.specs.declared.unasked.Unasked.{Unasked}
use Rattle.command_line.specs.declared.unasked.Unasked.TheVariants as why

-- a folder is given, and nothing to write to
abbrev pub HasNoOutput : List Row → Type 0
HasNoOutput rows =
    (first_of (codes "file") rows ≡ None) × (first_of (codes "OUT") rows ≡ None)

-- a folder is given, and a file too
abbrev pub HasTwoOrigins : List Row → Type 0
HasTwoOrigins rows =
    (first_of (codes "file") rows ≢ None) × (first_of (codes "OUT") rows ≢ None)

-- it is known where the files are, and where the torrent goes
abbrev pub HasPlaces : List Row → Type 0
HasPlaces rows = (HasNoOutput rows → ⊥) × (HasTwoOrigins rows → ⊥)

-- this text stands in the place of a piece length, and is none
abbrev pub HasNoLength : List Row → Text → Type 0
HasNoLength rows text = (first_of (codes "piece-length") rows ≡ Some text)
    × ((length : PieceLengthChoice) → IsPieceLengthText text length → ⊥)

-- the same of a part
abbrev pub HasNoPart : List Row → Text → Type 0
HasNoPart rows text = (first_of (codes "part") rows ≡ Some text)
    × ((part : NumberedPart) → NamesPart text part → ⊥)

-- the text that is no piece length, or there is none
abbrev pub IsRefusedLength : List Row → Option (Bor Text) → Type 0
IsRefusedLength rows (Some text) = HasNoLength rows text.now
IsRefusedLength rows None = (text : Text) → HasNoLength rows text → ⊥

-- the same of a part
abbrev pub IsRefusedPart : List Row → Option (Bor Text) → Type 0
IsRefusedPart rows (Some text) = HasNoPart rows text.now
IsRefusedPart rows None = (text : Text) → HasNoPart rows text → ⊥

-- why `check` asks for nothing: an option is given that a part has not, or the part is none
abbrev pub IsWhyNoCheck : List Row → Unasked → Type 0
IsWhyNoCheck rows (why.NoLength text) = ⊥
IsWhyNoCheck rows (why.NoPart text) = IsPlain rows × HasNoPart rows text.now
IsWhyNoCheck rows why.NotOfParts = IsPlain rows → ⊥
IsWhyNoCheck rows why.NoOutput = ⊥
IsWhyNoCheck rows why.TwoOrigins = ⊥
IsWhyNoCheck rows why.NoCommand = IsPlain rows × IsRefusedPart rows None

-- why `create` asks for nothing: a path is missing, or there is one too many; or else the piece
-- length is none, or else the part
abbrev pub IsWhyNoTorrent : List Row → Unasked → Type 0
IsWhyNoTorrent rows why.NoOutput = HasNoOutput rows
IsWhyNoTorrent rows why.TwoOrigins = HasTwoOrigins rows
IsWhyNoTorrent rows (why.NoLength text) = HasPlaces rows × HasNoLength rows text.now
IsWhyNoTorrent rows (why.NoPart text) =
    HasPlaces rows × IsRefusedLength rows None × HasNoPart rows text.now
IsWhyNoTorrent rows why.NotOfParts = ⊥
IsWhyNoTorrent rows why.NoCommand =
    HasPlaces rows × IsRefusedLength rows None × IsRefusedPart rows None

-- why the command of this name asks for nothing
abbrev pub IsWhyOf : Text → List Row → Unasked → Type 0
IsWhyOf name rows reason = (name ≡ codes "check" → IsWhyNoCheck rows reason)
    × (name ≡ codes "create" → IsWhyNoTorrent rows reason)
    × (name ≢ codes "check" → name ≢ codes "create" → reason ≡ why.NoCommand)

-- why what was found asks for nothing
abbrev pub IsWhy : Option (Text × List Row) → Unasked → Type 0
IsWhy (Some found) reason = IsWhyOf found.0 found.1 reason
IsWhy None reason = reason ≡ why.NoCommand

-- the kind of the error that says so: a value is none, options do not go together, or a path is
-- missing; a command is missing only where it is none of these
abbrev pub kind_for : Unasked → ErrorKind
kind_for (why.NoLength text) = ValueValidation
kind_for (why.NoPart text) = ValueValidation
kind_for why.NotOfParts = ArgumentConflict
kind_for why.TwoOrigins = ArgumentConflict
kind_for why.NoOutput = MissingRequiredArgument
kind_for why.NoCommand = MissingSubcommand

-- an error of this kind says why what was found asks for nothing
abbrev pub IsUnaskedKind : Option (Text × List Row) → ErrorKind → Type 0
IsUnaskedKind found kind = (reason : Unasked) × IsWhy found reason × (kind ≡ kind_for reason)
