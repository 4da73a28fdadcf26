-- What is found of a command, and which texts an action needs.
use Rattle.std.proofs.Common.{◌≡◌, ◌∙◌, ◌∷◌, [], ap, codes, false, if◌then◌else◌, List, None, Option, option_map, refl, Some, subst, sym, true, ◌||◌}
use Rattle.std.specs.List.{list_any}
use Rattle.std.specs.Prelude.{⊤, Box, Err, IfOk, Ok, Result, unwrap_or}
use Rattle.std.specs.Box.{box_value}
use Rattle.clap.specs.Simple.{subcommand_rows}
use Rattle.clap.specs.declared.parser.matches.SubCommand.{SubCommand}
use Rattle.clap.specs.declared.parser.matches.ArgMatches.TheViews.{out-SubCommand}
use Rattle.std.specs.Borrow.{Bor}
use Rattle.std.specs.Str.{bytes_eq}
use Rattle.std.proofs.lemmas.Slice.Eq.{bytes_eq-Decides}
use Rattle.clap.specs.Walk.{Row, Text, first_of}
use Rattle.actions.specs.declared.command.Action.{Action}
use Rattle.actions.specs.declared.command.Action.TheVariants as action
use Rattle.actions.specs.declared.command.Asked.{Asked}
use Rattle.actions.specs.declared.command.NumberedPart.{NumberedPart}
use Rattle.actions.specs.declared.creation.Origin.{Origin}
use Rattle.actions.specs.declared.creation.Origin.TheVariants as origin
use Rattle.actions.specs.declared.creation.PieceLengthChoice.{PieceLengthChoice}
use Rattle.command_line.specs.CommandLine.{Asks, AsksFor, FindsArguments, command_of, IsAskedFor, IsAskedOf}
use Rattle.command_line.specs.Found.{ArePlaces, IsPieceLengthUnder, IsPlain}
use Rattle.command_line.specs.PartTexts.{NamesPart}

-- what is known of the name and of the rows of what was found
pub both_found : {Z : Type 0} (o : Option (Box SubCommand Z)) (name : Text) (rows : List Row)
    → option_map (λ b. (out-SubCommand (box_value b)).name.now) o ≡ Some name
    → option_map (λ p. p.1) (subcommand_rows o) ≡ Some rows → subcommand_rows o ≡ Some (name, rows)
both_found None name rows n r =
    let bad : None ≡ Some name = n in
    cc
both_found (Some b) name rows n r = cc

-- what the command that was found asks for is what was found
pub asked_of : (found : Option (Text × List Row)) (name : Text) (rows : List Row) (r : Option Asked)
    → found ≡ Some (name, rows) → IsAskedFor name rows r → IsAskedOf found r
asked_of found name rows (Some a) is asks = (name, rows, is, asks)
asked_of found name rows None is none = λ a asked.
    let same : Some (asked.0, asked.1) ≡ Some (name, rows) = sym asked.2 ∙ is in
    none a (subst (AsksIn a) same asked.3)
  where
    AsksIn : Asked → Option (Text × List Row) → Type 0
    AsksIn a None = ⊤
    AsksIn a (Some p) = AsksFor p.0 p.1 a

-- the same if it was found with enough memory
pub asked_if : {E : Type 0} (found : Option (Text × List Row)) (name : Text) (rows : List Row) (r : Result (Option Asked) E)
    → found ≡ Some (name, rows) → IfOk r (IsAskedFor name rows) → IfOk r (IsAskedOf found)
asked_if found name rows (Ok a) is asks = asked_of found name rows a is asks
asked_if found name rows (Err e) is asks = tt

-- two names of which one computes that they differ
differs : (a b : Text) → bytes_eq a b ≡ false → a ≡ b → ⊥
differs a b unlike e =
    let bad : false ≡ true = sym unlike ∙ (bytes_eq-Decides a b).1 e in
    cc

-- ---- without a text or a piece length that it needs, a command asks for nothing

-- what stands beside a name in a table
abbrev pub beside : Text → List (Text × List Text) → List Text
beside name [] = []
beside name (p ∷ ps) = if bytes_eq name p.0 then p.1 else beside name ps

-- the texts that the command of this name needs
abbrev pub needed_texts : Text → List Text
needed_texts name = beside name ((codes "root", codes "FILE" ∷ [])
    ∷ (codes "show", codes "TORRENT" ∷ [])
    ∷ (codes "check", codes "TORRENT" ∷ codes "DIR" ∷ [])
    ∷ (codes "join", codes "TORRENT" ∷ [])
    ∷ (codes "create", codes "DIR" ∷ codes "name" ∷ [])
    ∷ (codes "assemble", codes "OUT" ∷ [])
    ∷ (codes "replay", codes "TORRENT" ∷ codes "RECORD" ∷ [])
    ∷ (codes "convert", codes "RECORD" ∷ codes "OUT" ∷ []) ∷ [])

-- a text is found under each of these names
abbrev pub HasTexts : List Row → List Text → Type 0
HasTexts rows [] = ⊤
HasTexts rows (name ∷ names) =
    ((text : Text) × (first_of name rows ≡ Some text)) × HasTexts rows names

-- a new torrent has a path where the folder stands
has_first : (rows : List Row) (where_from : Origin) (out : Bor Text) → ArePlaces rows where_from out
    → (text : Text) × (first_of (codes "DIR") rows ≡ Some text)
has_first rows (origin.Folder dir) out places = (dir.now, places.1)
has_first rows (origin.File file) out places = (out.now, places.2)

-- an action that is found has the texts that its command needs
has_texts : (rows : List Row) (a : Action) → FindsArguments rows a
    → HasTexts rows (needed_texts (command_of a))
has_texts rows (action.Root file json) found = ((file.now, found.0), tt)
has_texts rows (action.Show torrent json long) found = ((torrent.now, found.0), tt)
has_texts rows (action.Check asked) found =
    ((asked.torrent.now, found.0), ((asked.dir.now, found.1), tt))
has_texts rows (action.CheckPart asked) found =
    ((asked.torrent.now, found.0), ((asked.dir.now, found.1), tt))
has_texts rows (action.Join asked) found = ((asked.torrent.now, found.0), tt)
has_texts rows (action.Create asked) found =
    (has_first rows asked.origin asked.out found.0.0, ((asked.name.now, found.0.1), tt))
has_texts rows (action.CreatePart asked part) found =
    (has_first rows asked.origin asked.out found.0.0, ((asked.name.now, found.0.1), tt))
has_texts rows (action.Assemble asked) found = ((asked.out.now, found.0), tt)
has_texts rows (action.Replay asked) found =
    ((asked.torrent.now, found.0), ((asked.record.now, found.1), tt))
has_texts rows (action.Convert asked) found =
    ((asked.record.now, found.0), ((asked.out.now, found.1), tt))

-- none of the texts that are found is absent
none_absent : (rows : List Row) (name : Text) → first_of name rows ≡ None
    → (names : List Text) → HasTexts rows names → list_any (bytes_eq name) names ≡ true → ⊥
none_absent rows name absent [] all is = cc
none_absent rows name absent (n ∷ names) all is =
    elim (bytes_eq name n) as (λ b. bytes_eq name n ≡ b → (b || list_any (bytes_eq name) names) ≡ true → ⊥) [
      | true ↦ λ same _.
          let at : first_of n rows ≡ None = subst (λ m. first_of m rows ≡ None) ((bytes_eq-Decides name n).0 same) absent in
          let bad : None ≡ Some all.0.0 = sym at ∙ all.0.1 in
          cc
      | false ↦ λ _ rest. none_absent rows name absent names all.1 rest
    ] refl is

-- without a text that it needs, a command asks for nothing
pub needs_text : (command name : Text) (rows : List Row)
    → list_any (bytes_eq name) (needed_texts command) ≡ true → first_of name rows ≡ None
    → (a : Action) → Asks command rows a → ⊥
needs_text command name rows needed absent a asks =
    none_absent rows name absent (needed_texts (command_of a)) (has_texts rows a asks.1)
    (subst (λ c. list_any (bytes_eq name) (needed_texts c) ≡ true) asks.0 needed)

-- without places, `create` asks for nothing
pub needs_places : (rows : List Row)
    → ((where_from : Origin) (out : Bor Text) → ArePlaces rows where_from out → ⊥)
    → (a : Action) → Asks (codes "create") rows a → ⊥
needs_places rows none (action.Root file json) asks = differs _ _ refl asks.0
needs_places rows none (action.Show torrent json long) asks = differs _ _ refl asks.0
needs_places rows none (action.Check asked) asks = differs _ _ refl asks.0
needs_places rows none (action.CheckPart asked) asks = differs _ _ refl asks.0
needs_places rows none (action.Join asked) asks = differs _ _ refl asks.0
needs_places rows none (action.Create asked) asks = none asked.origin asked.out asks.1.0.0
needs_places rows none (action.CreatePart asked part) asks = none asked.origin asked.out asks.1.0.0
needs_places rows none (action.Assemble asked) asks = differs _ _ refl asks.0
needs_places rows none (action.Replay asked) asks = differs _ _ refl asks.0
needs_places rows none (action.Convert asked) asks = differs _ _ refl asks.0

-- without a piece length, `create` asks for nothing
pub needs_piece_length : (rows : List Row)
    → ((pieces : PieceLengthChoice) → IsPieceLengthUnder (codes "piece-length") rows pieces → ⊥)
    → (a : Action) → Asks (codes "create") rows a → ⊥
needs_piece_length rows none (action.Root file json) asks = differs _ _ refl asks.0
needs_piece_length rows none (action.Show torrent json long) asks = differs _ _ refl asks.0
needs_piece_length rows none (action.Check asked) asks = differs _ _ refl asks.0
needs_piece_length rows none (action.CheckPart asked) asks = differs _ _ refl asks.0
needs_piece_length rows none (action.Join asked) asks = differs _ _ refl asks.0
needs_piece_length rows none (action.Create asked) asks = none asked.piece_length asks.1.0.2
needs_piece_length rows none (action.CreatePart asked part) asks = none asked.piece_length asks.1.0.2
needs_piece_length rows none (action.Assemble asked) asks = differs _ _ refl asks.0
needs_piece_length rows none (action.Replay asked) asks = differs _ _ refl asks.0
needs_piece_length rows none (action.Convert asked) asks = differs _ _ refl asks.0

-- with a part, `check` asks for nothing but that part, and for nothing if it cannot
pub needs_part : (rows : List Row) (text : Text) → first_of (codes "part") rows ≡ Some text
    → ((part : NumberedPart) → NamesPart text part → IsPlain rows → ⊥)
    → (a : Action) → Asks (codes "check") rows a → ⊥
needs_part rows text found none (action.Root file json) asks = differs _ _ refl asks.0
needs_part rows text found none (action.Show torrent json long) asks = differs _ _ refl asks.0
needs_part rows text found none (action.Check asked) asks =
    let bad : Some text ≡ None = sym found ∙ asks.1.5 in
    cc
needs_part rows text found none (action.CheckPart asked) asks =
    let is = asks.1.2 in
    let same : text ≡ is.0 = ap (λ (o : Option Text). unwrap_or o text) (sym found ∙ is.1) in
    none asked.part (subst (λ t. NamesPart t asked.part) (sym same) is.2) asks.1.5
needs_part rows text found none (action.Join asked) asks = differs _ _ refl asks.0
needs_part rows text found none (action.Create asked) asks = differs _ _ refl asks.0
needs_part rows text found none (action.CreatePart asked part) asks = differs _ _ refl asks.0
needs_part rows text found none (action.Assemble asked) asks = differs _ _ refl asks.0
needs_part rows text found none (action.Replay asked) asks = differs _ _ refl asks.0
needs_part rows text found none (action.Convert asked) asks = differs _ _ refl asks.0

-- with a part, `create` asks for nothing but that part
pub needs_created_part : (rows : List Row) (text : Text) → first_of (codes "part") rows ≡ Some text
    → ((part : NumberedPart) → NamesPart text part → ⊥)
    → (a : Action) → Asks (codes "create") rows a → ⊥
needs_created_part rows text found none (action.Root file json) asks = differs _ _ refl asks.0
needs_created_part rows text found none (action.Show torrent json long) asks = differs _ _ refl asks.0
needs_created_part rows text found none (action.Check asked) asks = differs _ _ refl asks.0
needs_created_part rows text found none (action.CheckPart asked) asks = differs _ _ refl asks.0
needs_created_part rows text found none (action.Join asked) asks = differs _ _ refl asks.0
needs_created_part rows text found none (action.Create asked) asks =
    let bad : Some text ≡ None = sym found ∙ asks.1.1 in
    cc
needs_created_part rows text found none (action.CreatePart asked part) asks =
    let is = asks.1.1 in
    let same : text ≡ is.0 = ap (λ (o : Option Text). unwrap_or o text) (sym found ∙ is.1) in
    none part (subst (λ t. NamesPart t part) (sym same) is.2)
needs_created_part rows text found none (action.Assemble asked) asks = differs _ _ refl asks.0
needs_created_part rows text found none (action.Replay asked) asks = differs _ _ refl asks.0
needs_created_part rows text found none (action.Convert asked) asks = differs _ _ refl asks.0
