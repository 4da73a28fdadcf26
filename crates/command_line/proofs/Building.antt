-- How a command and its arguments grow.
use Rattle.std.proofs.Common.{◌≡◌, ◌+◌, ◌++◌, ◌<◌, ◌∙◌, ◌∷◌, ◌||◌, [], Bool, List, Some, ap, codes, get_or, length, map, subst, sym, take, true, ℕ}
use Rattle.std.proofs.lemmas.List.{map_more}
use Rattle.std.specs.List.{AllZip}
use Rattle.std.specs.Borrow.{Bor}
use Rattle.clap.specs.Built.{AddsArg, AddsInTurn, AddsSubcommand}
use Rattle.clap.specs.Simple.{App, Shape, app_of, app_of_fields, new_app, on_top, with_rule, with_subcommand}
use Rattle.clap.specs.Walk.{Rule, Text, rule_of}
use Rattle.clap.specs.declared.builder.action.ArgAction.{ArgAction}
use Rattle.clap.specs.declared.builder.arg.Arg.{Arg}
use Rattle.clap.specs.declared.builder.command.Command.{Command}
use Rattle.clap.specs.declared.builder.command.Command.TheOpen.{Command-F}
use Rattle.clap.specs.declared.builder.command.Command.TheViews.{out-Command}
use Rattle.clap.specs.declared.builder.texts.Texts.TheVariants.{One}
use Rattle.command_line.specs.CommandLine.{IsApp, IsArgument, IsLeaf, command, with_more}

-- ---- an argument

abbrev is_global : Arg → Bool
is_global a = a.global

pub set_required : (old new : Arg) (needs : Bool) (r : Rule) → new ≡ record old { required = needs }
    → IsArgument r old → IsArgument (record r { required = needs }) new
set_required old new needs r e is =
    (ap rule_of e ∙ ap (λ (q : Rule). record q { required = needs }) is.0, ap is_global e ∙ is.1)

pub set_action : (old new : Arg) (action : ArgAction) (r : Rule) → new ≡ record old { action = Some action }
    → IsArgument r old → IsArgument (record r { action = Some action }) new
set_action old new action r e is =
    (ap rule_of e ∙ ap (λ (q : Rule). record q { action = Some action }) is.0, ap is_global e ∙ is.1)

pub set_long : (old new : Arg) (name : Bor Text) (r : Rule) → new ≡ record old { long = Some name }
    → IsArgument r old → IsArgument (record r { long = Some name.now }) new
set_long old new name r e is =
    (ap rule_of e ∙ ap (λ (q : Rule). record q { long = Some name.now }) is.0, ap is_global e ∙ is.1)

pub set_value_name : (old new : Arg) (name : Bor Text) (r : Rule) → new ≡ record old { val_names = One name }
    → IsArgument r old → IsArgument (record r { value_names = 1 }) new
set_value_name old new name r e is =
    (ap rule_of e ∙ ap (λ (q : Rule). record q { value_names = 1 }) is.0, ap is_global e ∙ is.1)

pub set_short : (old new : Arg) (letter : ℕ) (r : Rule) → new ≡ record old { short = Some letter }
    → IsArgument r old → IsArgument (record r { short = Some letter }) new
set_short old new letter r e is =
    (ap rule_of e ∙ ap (λ (q : Rule). record q { short = Some letter }) is.0, ap is_global e ∙ is.1)

pub set_help : (old new : Arg) (help : Bor Text) (r : Rule) → new ≡ record old { help = Some help }
    → IsArgument r old → IsArgument r new
set_help old new help r e is = (ap rule_of e ∙ is.0, ap is_global e ∙ is.1)

-- ---- a command

abbrev has_globals : Command-F Command → Bool
has_globals c = c.has_globals

pub set_about : (old new : Command) (text : Bor Text) (app : App)
    → out-Command new ≡ record (out-Command old) { about = Some text } → IsApp app old → IsApp app new
set_about old new text app e is = (ap app_of_fields e ∙ is.0, ap has_globals e ∙ is.1)

pub set_after_help : (old new : Command) (text : Bor Text) (app : App)
    → out-Command new ≡ record (out-Command old) { after_help = Some text } → IsApp app old → IsApp app new
set_after_help old new text app e is = (ap app_of_fields e ∙ is.0, ap has_globals e ∙ is.1)

pub set_after_long_help : (old new : Command) (text : Bor Text) (app : App)
    → out-Command new ≡ record (out-Command old) { after_long_help = Some text } → IsApp app old → IsApp app new
set_after_long_help old new text app e is = (ap app_of_fields e ∙ is.0, ap has_globals e ∙ is.1)

abbrev versioned : App → App
versioned = on_top (λ (s : Shape). record s { has_version = true })

pub set_version : (old new : Command) (text : Bor Text) (app : App)
    → out-Command new ≡ record (out-Command old) { version = Some text } → IsApp app old → IsApp (versioned app) new
set_version old new text app e is = (ap app_of_fields e ∙ ap versioned is.0, ap has_globals e ∙ is.1)

abbrev needing : App → App
needing = on_top (λ (s : Shape). record s { subcommand_required = true })

pub set_subcommand_required : (old new : Command) (app : App)
    → out-Command new ≡ record (out-Command old) { subcommand_required = true } → IsApp app old → IsApp (needing app) new
set_subcommand_required old new app e is = (ap app_of_fields e ∙ ap needing is.0, ap has_globals e ∙ is.1)

-- a command with one argument more
pub add_argument : (old new : Command) (a : Arg) (s : Shape) (r : Rule)
    → IsLeaf s old → IsArgument r a → AddsArg old a new → IsLeaf (with_more s r) new
add_argument old new a s r leaf arg adds = (
  adds.shape arg.1 ∙ ap (λ (x : App). with_rule x (rule_of a)) leaf.0
      ∙ ap (λ (x : Rule). with_rule (record { top = s; subs = [] }) x) arg.0,
  adds.globals ∙ ap (λ (b : Bool). b || a.global) leaf.1 ∙ arg.1,
)

-- a program with one command more
pub add_command : (old sub new : Command) (app : App) (s : Shape)
    → IsApp app old → IsLeaf s sub → AddsSubcommand old sub new
    → IsApp (with_subcommand app s) new
add_command old sub new app s is leaf adds =
    let same : app_of new ≡ with_subcommand (app_of old) (app_of sub).top = adds.shape leaf.1 in (
      same ∙ ap (λ (x : App). with_subcommand x (app_of sub).top) is.0
          ∙ ap (λ (x : App). with_subcommand app x.top) leaf.0,
      adds.globals ∙ ap (λ (b : Bool). b || (out-Command sub).has_globals) is.1 ∙ leaf.1,
    )

-- ---- the table

-- the program without its commands
abbrev pub start : App
start = needing (versioned (new_app (codes "btcheck")))

-- the program with these commands
abbrev pub with_leaves : App → List Shape → App
with_leaves app [] = app
with_leaves app (s ∷ shapes) = with_leaves (with_subcommand app s) shapes

-- a program with the commands of these shapes more
pub add_leaves : (old new : Command) (app : App) (shapes : List Shape) (subs : List Command)
    → IsApp app old → AllZip IsLeaf shapes subs → AddsInTurn AddsSubcommand old subs new
    → IsApp (with_leaves app shapes) new
add_leaves old new app [] [] is all adds = subst (IsApp app) adds is
add_leaves old new app [] (c ∷ subs) is all adds = absurd all
add_leaves old new app (s ∷ shapes) [] is all adds = absurd all
add_leaves old new app (s ∷ shapes) (c ∷ subs) is all adds =
    add_leaves adds.0 new (with_subcommand app s) shapes subs (add_command old c adds.0 app s is all.0 adds.1) all.1 adds.2

all_zip_push : {A B : Type 0} (R : A → B → Type 0) (xs : List A) (ys : List B) (x : A) (y : B)
    → AllZip R xs ys → R x y → AllZip R (xs ++ x ∷ []) (ys ++ y ∷ [])
all_zip_push R [] [] x y all is = (is, tt)
all_zip_push R [] (v ∷ ys) x y all is = absurd all
all_zip_push R (u ∷ xs) [] x y all is = absurd all
all_zip_push R (u ∷ xs) (v ∷ ys) x y all is = (all.0, all_zip_push R xs ys x y all.1 is)

module _ {X : Type 0} (f : X → Shape) where
  -- the commands of one row more
  pub more_leaves : (rows : List X) (i : ℕ) (d : X) (leaves : List Command) (leaf : Command) → i < length rows
      → AllZip IsLeaf (map f (take i rows)) leaves → IsLeaf (f (get_or rows i d)) leaf
      → AllZip IsLeaf (map f (take (i + 1) rows)) (leaves ++ leaf ∷ [])
  more_leaves rows i d leaves leaf lt all is =
      subst (λ shapes. AllZip IsLeaf shapes (leaves ++ leaf ∷ [])) (sym (map_more f rows i d lt))
      (all_zip_push IsLeaf (map f (take i rows)) leaves (f (get_or rows i d)) leaf all is)

module _ {X : Type 0} (f : X → Rule) where
  -- a command with the argument of one row more
  pub add_row : (old new : Command) (a : Arg) (name : Text) (rows : List X) (i : ℕ) (d : X) → i < length rows
      → IsLeaf (command name (map f (take i rows))) old → IsArgument (f (get_or rows i d)) a → AddsArg old a new
      → IsLeaf (command name (map f (take (i + 1) rows))) new
  add_row old new a name rows i d lt leaf arg adds =
      subst (λ rules. IsLeaf (command name rules) new) (sym (map_more f rows i d lt))
      (add_argument old new a (command name (map f (take i rows))) (f (get_or rows i d)) leaf arg adds)
