-- What a text is read as: a glob, or none.
use Rattle.std.specs.Str.{chars}
use Rattle.std.specs.Prelude.{◌≡◌, ℕ, zero, suc, ◌==◌, Bool, true, false, not, ◌&&◌, ◌||◌, List, [], ◌∷◌, ◌++◌, drop, length, map, ⊤}
use Rattle.std.specs.Prelude.{Option, Some, None, option_map, option_and_then, if◌then◌else◌, Result, Ok, Err}
use Rattle.std.specs.Borrow.{Bor}
use Rattle.std.specs.Global.{Vec}
use Rattle.globs.specs.declared.kinds.Glob.{Glob}
use Rattle.globs.specs.declared.kinds.Range.{Range}
use Rattle.globs.specs.declared.reading.Read.{Read}
use Rattle.globs.specs.declared.reading.ReadFault.{ReadFault}
use Rattle.globs.specs.declared.reading.ReadFault.TheVariants as fault
use Rattle.globs.specs.Globs.{Kind, Whole, folders, kind_of, slash, whole_of}
use Rattle.globs.specs.Reading.{GlobFront, begins, part_at, put}

-- a text is a `/` alone
abbrev pub is_slash : List ℕ → Bool
is_slash text = begins slash text && (length (drop 1 text) == 0)

-- it has a `/` that is not at its end
abbrev pub has_inner_slash : List ℕ → Bool
has_inner_slash [] = false
has_inner_slash (c ∷ text) = (c == slash && not (length text == 0)) || has_inner_slash text

-- the parts of a text, at most n; each has a character at least. A `/` at its end is none: it
-- says that the glob matches folders alone
abbrev pub parts_at : ℕ → Bool → List ℕ → Option Whole
parts_at zero starts text = Some ([], is_slash text)
parts_at (suc n) starts text =
    if length text == 0 || is_slash text then Some ([], is_slash text)
    else option_and_then (λ x. option_map (put (x.0 ∷ [])) (parts_at n x.1 x.2))
    (part_at starts text)

-- the parts of a text that is not empty, behind these
abbrev pub from_top : List Kind → List ℕ → Option Whole
from_top before text =
    if length text == 0 then None else option_map (put before) (parts_at (length text) true text)

-- a glob with a `/` at its start or inside matches from the top, any other at any depth, as though
-- `**/` stood before it
abbrev pub glob_of : List ℕ → Option Whole
glob_of text =
    if begins slash text then from_top [] (drop 1 text)
    else if has_inner_slash text then from_top [] text
    else from_top (folders ∷ []) text

-- the characters of a text
abbrev pub chars_of : Bor (List ℕ) → List ℕ
chars_of text = chars text.now

-- each of these texts is a glob, and these are they
abbrev pub AreRead : List (Bor (List ℕ)) → List Glob → Type 0
AreRead texts globs = map glob_of (map chars_of texts) ≡ map (λ glob. Some (whole_of glob)) globs

-- the text with this number is no glob, and each before it is one
abbrev pub IsFirstNone : ℕ → List (Bor (List ℕ)) → Type 0
IsFirstNone n texts =
    (before : List Whole) × (behind : List (Option Whole))
    × (map glob_of (map chars_of texts) ≡ map (λ glob. Some glob) before ++ None ∷ behind)
    × (length before ≡ n)

-- ---- what the code answers

-- a result says what a definition says: None where it is `Malformed`
abbrev pub AnswersAs : {A B : Type 0} → (A → B) → Result A ReadFault → Option B → Type 0
AnswersAs seen (Ok x) said = said ≡ Some (seen x)
AnswersAs seen (Err fault.Malformed) said = said ≡ None
AnswersAs seen (Err fault.NoMemory) said = ⊤

-- what it answers, as a definition says it
abbrev pub seen_letter : Option (ℕ × Bor (List ℕ)) → Option (ℕ × List ℕ)
seen_letter r = option_map (λ x. (x.0, x.1.now)) r

abbrev pub seen_range : Option (Range × Bor (List ℕ)) → Option (Range × List ℕ)
seen_range r = option_map (λ x. (x.0, x.1.now)) r

abbrev pub seen_ranges : Vec Range × Bor (List ℕ) → List Range × List ℕ
seen_ranges (ranges, rest) = (ranges.items, rest.now)

abbrev pub seen_part : Read → GlobFront
seen_part read = (kind_of read.part, read.starts, read.rest.now)
