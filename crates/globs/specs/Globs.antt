-- What a glob matches, and which paths it leaves out. A text is a list of characters.
use Rattle.std.specs.Prelude.{◌≡◌, ℕ, ◌==◌, nat_le, Bool, true, false, not, ◌&&◌, ◌||◌, List, [], ◌∷◌, ◌++◌, length, map}
use Rattle.std.specs.List.{join_with_byte, list_any, list_all}
use Rattle.std.specs.Str.{chars}
use Rattle.globs.specs.declared.kinds.Glob.{Glob}
use Rattle.globs.specs.declared.kinds.Letters.{Letters}
use Rattle.globs.specs.declared.kinds.Letters.TheVariants.{One, InName, Any, Bracketed}
use Rattle.globs.specs.declared.kinds.GlobPart.{GlobPart}
use Rattle.globs.specs.declared.kinds.GlobPart.TheVariants.{Letter, Run, Folders}
use Rattle.globs.specs.declared.kinds.Range.{Range}

-- `/`
abbrev pub slash : ℕ
slash = 47

-- ---- what a glob is made of

-- the characters that one place takes: this one (`a`, `\*`), any but `/` (`?`, `*`), any (`**`),
-- those in some of these ranges (`[a-z]`) or in none (`[!a-z]`)
pub data Choice : Type 0 where
  exactly : ℕ → Choice
  in_name : Choice
  anything : Choice
  bracketed : Bool → List Range → Choice

-- a part: one character, a run of them (`*`, `**`), or folders (`**/`)
pub data Kind : Type 0 where
  letter : Choice → Kind
  run : Choice → Kind
  folders : Kind

-- a glob: its parts, in order, and whether it matches folders alone
abbrev pub Whole : Type 0
Whole = List Kind × Bool

-- ---- what a glob matches

-- a character is in a range
abbrev pub is_within : ℕ → Range → Bool
is_within c range = nat_le range.first c && nat_le c range.last

-- it is in a range of these brackets or, if they are of others, in none
abbrev pub is_bracketed : Bool → List Range → ℕ → Bool
is_bracketed true ranges c = not (list_any (is_within c) ranges)
is_bracketed false ranges c = list_any (is_within c) ranges

-- a character is one of these
abbrev pub takes : Choice → ℕ → Bool
takes (exactly one) c = c == one
takes in_name c = not (c == slash)
takes anything c = true
takes (bracketed is_other ranges) c = not (c == slash) && is_bracketed is_other ranges c

-- a text ends in `/`
abbrev pub ends_in_slash : List ℕ → Bool
ends_in_slash [] = false
ends_in_slash (c ∷ text) = (length text == 0 && c == slash) || ends_in_slash text

-- a part matches a text: one character, any number of them, or nothing or what ends in `/`
abbrev pub part_matches : Kind → List ℕ → Bool
part_matches (letter choice) text = length text == 1 && list_all (takes choice) text
part_matches (run choice) text = list_all (takes choice) text
part_matches folders text = length text == 0 || ends_in_slash text

-- a text is a front and a back, of which this is true
abbrev pub some_split : (List ℕ → List ℕ → Bool) → List ℕ → Bool
some_split test [] = test [] []
some_split test (c ∷ text) =
    test [] (c ∷ text) || some_split (λ front back. test (c ∷ front) back) text

-- parts match a text: it is what each of them matches, in order
abbrev pub matches : List Kind → List ℕ → Bool
matches [] text = length text == 0
matches (part ∷ parts) text =
    some_split (λ front back. part_matches part front && matches parts back) text

-- what may stand behind a match: what is below it or, if it need not be a folder, nothing
abbrev pub may_follow : Bool → List ℕ → Bool
may_follow folders_alone [] = not folders_alone
may_follow folders_alone (c ∷ below) = c == slash

-- a glob leaves out a path: it matches the path or a folder above it
abbrev pub leaves_out : Whole → List ℕ → Bool
leaves_out (parts, folders_alone) path =
    some_split (λ front back. matches parts front && may_follow folders_alone back) path

-- one of these globs does
abbrev pub some_leaves_out : List Whole → List ℕ → Bool
some_leaves_out globs path = list_any (λ glob. leaves_out glob path) globs

-- one of them matches what has this path and is a folder, or a folder above it
abbrev pub some_leaves_out_folder : List Whole → List ℕ → Bool
some_leaves_out_folder globs path = list_any (λ glob. leaves_out (glob.0, false) path) globs

-- then they leave out all that is below it
abbrev pub LeavesOutBelow : List Whole → List ℕ → Type 0
LeavesOutBelow globs path =
    (below : List ℕ) → some_leaves_out globs (path ++ slash ∷ below) ≡ true

-- the characters of a path, whose components `/` joins
abbrev pub path_chars : List (List ℕ) → List ℕ
path_chars path = chars (join_with_byte slash path)

-- ---- the same of what the code has

abbrev pub choice_of : Letters → Choice
choice_of (One c) = exactly c
choice_of InName = in_name
choice_of Any = anything
choice_of (Bracketed brackets) = bracketed brackets.is_other brackets.ranges.items

abbrev pub kind_of : GlobPart → Kind
kind_of (Letter letters) = letter (choice_of letters)
kind_of (Run letters) = run (choice_of letters)
kind_of Folders = folders

abbrev pub whole_of : Glob → Whole
whole_of glob = (map kind_of glob.parts.items, glob.folders_alone)
