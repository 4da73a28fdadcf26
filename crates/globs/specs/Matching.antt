-- What the matcher keeps while it reads a path from its end: a row, with a mark for each part.
use Rattle.std.specs.Prelude.{ℕ, ◌==◌, Bool, false, not, ◌&&◌, ◌||◌, List, [], ◌∷◌}
use Rattle.std.specs.List.{list_any}
use Rattle.globs.specs.Globs.{Kind, Whole, folders, leaves_out, letter, may_follow, run, slash, takes}

-- a part and what `after` tests match a text; of folders, with one at least
abbrev pub mark : Kind → (List ℕ → Bool) → List ℕ → Bool
mark (letter choice) after [] = false
mark (letter choice) after (c ∷ text) = after text && takes choice c
mark (run choice) after [] = after []
mark (run choice) after (c ∷ text) =
    after (c ∷ text) || (mark (run choice) after text && takes choice c)
mark folders after [] = false
mark folders after (c ∷ text) = mark folders after text || (after text && c == slash)

-- the same from a mark, of folders also with none
abbrev pub with_none : Kind → Bool → Bool → Bool
with_none (letter choice) marked here = marked
with_none (run choice) marked here = marked
with_none folders marked here = marked || here

-- parts and what may stand behind them match a text
abbrev pub found : Bool → List Kind → List ℕ → Bool
found folders_alone [] text = may_follow folders_alone text
found folders_alone (part ∷ parts) text =
    with_none part (mark part (found folders_alone parts) text) (found folders_alone parts text)

-- the marks of all parts
abbrev pub marks_of_parts : Bool → List Kind → List ℕ → List Bool
marks_of_parts folders_alone [] text = []
marks_of_parts folders_alone (part ∷ parts) text =
    mark part (found folders_alone parts) text ∷ marks_of_parts folders_alone parts text

-- a part's mark at one character more, and at the end
abbrev pub mark_before : Kind → ℕ → Bool → Bool → Bool → Bool
mark_before (letter choice) c here behind was = behind && takes choice c
mark_before (run choice) c here behind was = here || (was && takes choice c)
mark_before folders c here behind was = was || (behind && c == slash)

abbrev pub mark_at_end : Kind → Bool → Bool
mark_at_end (letter choice) here = false
mark_at_end (run choice) here = here
mark_at_end folders here = false

-- one of these globs leaves out a path, if it is a folder all below it
abbrev pub some_leaves_out_as : Bool → List Whole → List ℕ → Bool
some_leaves_out_as is_folder globs path =
    list_any (λ glob. leaves_out (glob.0, not is_folder && glob.1) path) globs
