-- What is found in the arguments of a command, under the names of its texts and options.
use Rattle.std.specs.Prelude.{◌≡◌, ◌≢◌, List, [], Bool, true, false, Option, Some, None}
use Rattle.std.specs.Prelude.{codes, map, option_map, unwrap_or}
use Rattle.std.specs.Borrow.{Bor}
use Rattle.clap.specs.Walk.{Row, Text, all_of, first_of, one_of}
use Rattle.actions.specs.declared.command.NumberedPart.{NumberedPart}
use Rattle.actions.specs.declared.creation.Origin.{Origin}
use Rattle.actions.specs.declared.creation.Origin.TheVariants as origin
use Rattle.actions.specs.declared.creation.PieceLengthChoice.{PieceLengthChoice}
use Rattle.command_line.specs.Lengths.{IsPieceLengthText}
use Rattle.command_line.specs.PartTexts.{NamesPart}

-- an option that is there or not, as clap gives it
abbrev pub IsFlag : Text → List Row → Bool → Type 0
IsFlag name rows given =
    (one_of name rows ≡ Some (codes "true") → given ≡ true)
    × (one_of name rows ≡ Some (codes "false") → given ≡ false)
    × (one_of name rows ≡ None → given ≡ false)

-- the text that is found under a name
abbrev pub IsTextUnder : Text → List Row → Bor Text → Type 0
IsTextUnder name rows text = first_of name rows ≡ Some text.now

-- the same of a text that may be absent
abbrev pub IsTextIfThere : Text → List Row → Option (Bor Text) → Type 0
IsTextIfThere name rows text = first_of name rows ≡ option_map (λ t. t.now) text

-- the texts that are found under a name, in order
abbrev pub texts_under : Text → List Row → List Text
texts_under name rows = unwrap_or (all_of name rows) []

-- these are they
abbrev pub AreTextsUnder : Text → List Row → List (Bor Text) → Type 0
AreTextsUnder name rows texts = map (λ t. t.now) texts ≡ texts_under name rows

-- where the files of a new torrent are, and where it goes: a folder and the torrent file; or, given
-- by its option, a file, and then the torrent file stands where the folder would
abbrev pub ArePlaces : List Row → Origin → Bor Text → Type 0
ArePlaces rows (origin.Folder dir) out = (first_of (codes "file") rows ≡ None)
    × IsTextUnder (codes "DIR") rows dir × IsTextUnder (codes "OUT") rows out
ArePlaces rows (origin.File file) out = (first_of (codes "OUT") rows ≡ None)
    × IsTextUnder (codes "file") rows file × IsTextUnder (codes "DIR") rows out

-- these are they, or they are not there
abbrev pub ArePlacesFound : List Row → Option (Origin × Bor Text) → Type 0
ArePlacesFound rows (Some places) = ArePlaces rows places.0 places.1
ArePlacesFound rows None = (o : Origin) (out : Bor Text) → ArePlaces rows o out → ⊥

-- the piece length that is found under a name
abbrev pub IsPieceLengthUnder : Text → List Row → PieceLengthChoice → Type 0
IsPieceLengthUnder name rows pieces =
    (text : Text) × (first_of name rows ≡ Some text) × IsPieceLengthText text pieces

-- the same, or there is none
abbrev pub IsPieceLengthFound : Text → List Row → Option PieceLengthChoice → Type 0
IsPieceLengthFound name rows (Some pieces) = IsPieceLengthUnder name rows pieces
IsPieceLengthFound name rows None =
    (pieces : PieceLengthChoice) → IsPieceLengthUnder name rows pieces → ⊥

-- the part that is found under a name
abbrev pub IsPartUnder : Text → List Row → NumberedPart → Type 0
IsPartUnder name rows part = (text : Text) × (first_of name rows ≡ Some text) × NamesPart text part

-- the option with this name is not given
abbrev pub IsNotGiven : Text → List Row → Type 0
IsNotGiven name rows = first_of name rows ≢ Some (codes "true")

-- none of the options is given that a part of a check has not
abbrev pub IsPlain : List Row → Type 0
IsPlain rows = IsNotGiven (codes "quiet") rows × IsNotGiven (codes "extra") rows
    × IsNotGiven (codes "summary") rows
