-- Drafts of the same files.
use Rattle.std.specs.Prelude.{◌≡◌, ℕ, Bool, List}
use Rattle.drafts.specs.Outline.{Outline, empty_outline}
use Rattle.drafts.specs.Written.{value_of}
use Rattle.gathering.specs.Gathered.{Gathered}

-- two drafts of one name, piece length and kind that were gathered of the same paths and contents,
-- in the same order, are written as one text
abbrev pub AlikeWriteAlike : Type 0
AlikeWriteAlike = (name : List ℕ) (piece_length : ℕ) (hybrid : Bool) (paths : List (List (List ℕ)))
    (contents : List (List ℕ)) (d e : Outline)
    → Gathered (empty_outline name piece_length hybrid) paths contents d
    → Gathered (empty_outline name piece_length hybrid) paths contents e → value_of d ≡ value_of e
