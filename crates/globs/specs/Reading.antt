-- How the parts of a glob are read. A text is a list of characters.
use Rattle.std.specs.Prelude.{ℕ, zero, suc, ◌==◌, nat_le, Bool, true, false, not, ◌&&◌, ◌||◌, List, [], ◌∷◌, ◌++◌, drop, length}
use Rattle.std.specs.Prelude.{Option, Some, None, option_map, option_and_then, if◌then◌else◌}
use Rattle.globs.specs.declared.kinds.Range.{Range}
use Rattle.globs.specs.Globs.{Kind, anything, bracketed, exactly, folders, in_name, letter, run, slash}

-- ---- texts

-- a text begins with this character
abbrev pub begins : ℕ → List ℕ → Bool
begins first [] = false
begins first (c ∷ text) = c == first

-- its first character, and what stands behind it
abbrev pub front : List ℕ → Option (ℕ × List ℕ)
front [] = None
front (c ∷ text) = Some (c, text)

-- the first character or, if that is `\`, the second, and what stands behind it
abbrev pub letter_at : List ℕ → Option (ℕ × List ℕ)
letter_at text = if begins 92 text then front (drop 1 text) else front text

-- these items before others
abbrev pub put : {A B : Type 0} → List A → List A × B → List A × B
put before (items, more) = (before ++ items, more)

-- ---- brackets

-- a range up to the character that was found, if it does not run backwards
abbrev pub last_of : ℕ → ℕ × List ℕ → Option (Range × List ℕ)
last_of first (last, text) =
    if nat_le first last then Some (record { first = first; last = last }, text) else None

-- the range that begins with a character: up to the one behind a `-`, unless that is the `]`; else
-- it alone
abbrev pub range_from : ℕ → List ℕ → Option (Range × List ℕ)
range_from first text =
    if begins 45 text && not (begins 93 (drop 1 text))
    then option_and_then (last_of first) (letter_at (drop 1 text))
    else Some (record { first = first; last = first }, text)

abbrev pub range_after : ℕ × List ℕ → Option (Range × List ℕ)
range_after (first, text) = range_from first text

-- the range that a text begins with, and what stands behind it
abbrev pub range_at : List ℕ → Option (Range × List ℕ)
range_at text = option_and_then range_after (letter_at text)

-- the ranges up to a `]`, at most n, and what stands behind it
abbrev pub ranges_at : ℕ → List ℕ → Option (List Range × List ℕ)
ranges_at zero text = None
ranges_at (suc n) text =
    if begins 93 text then Some ([], drop 1 text)
    else option_and_then (λ x. option_map (put (x.0 ∷ [])) (ranges_at n x.1)) (range_at text)

-- the same where the first one may begin with a `]`; each has a character at least
abbrev pub members : List ℕ → Option (List Range × List ℕ)
members text =
    option_and_then (λ x. option_map (put (x.0 ∷ [])) (ranges_at (length x.1) x.1)) (range_at text)

-- ---- one part

-- a part, whether the next one begins a component, and what stands behind it
abbrev pub GlobFront : Type 0
GlobFront = Kind × Bool × List ℕ

-- brackets, behind their `[`: of others behind a `!` or a `^`
abbrev pub is_of_others : List ℕ → Bool
is_of_others text = begins 33 text || begins 94 text

abbrev pub inside : List ℕ → List ℕ
inside text = if is_of_others text then drop 1 text else text

abbrev pub bracketed_at : List ℕ → Option GlobFront
bracketed_at text =
    option_map (λ x. (letter (bracketed (is_of_others text) x.0), false, x.1))
    (members (inside text))

-- the character behind a `\`
abbrev pub escaped_at : List ℕ → Option GlobFront
escaped_at text = option_map (λ x. (letter (exactly x.0), false, x.1)) (front text)

abbrev pub skip_stars : List ℕ → List ℕ
skip_stars [] = []
skip_stars (c ∷ text) = if c == 42 then skip_stars text else c ∷ text

-- what stars mean, behind the first: one, `**/` at the start of a component, or several elsewhere
abbrev pub stars_at : Bool → List ℕ → GlobFront
stars_at starts text =
    if not (begins 42 text) then (run in_name, false, text)
    else if starts && begins slash (skip_stars text)
    then (folders, true, drop 1 (skip_stars text))
    else (run anything, false, skip_stars text)

-- the part that begins with a character
abbrev pub part_from : Bool → ℕ × List ℕ → Option GlobFront
part_from starts (c, text) =
    if c == 42 then Some (stars_at starts text)
    else if c == 91 then bracketed_at text
    else if c == 92 then escaped_at text
    else Some (letter (if c == 63 then in_name else exactly c), c == slash, text)

-- the part that a text begins with
abbrev pub part_at : Bool → List ℕ → Option GlobFront
part_at starts text = option_and_then (part_from starts) (front text)
