-- What a part says of the pieces that it hashed, as it is written.
use Rattle.std.specs.Prelude.{ℕ, ◌+◌, Bool, true, false, List, [], ◌∷◌, ◌++◌, length, codes}
use Rattle.std.specs.List.{flat_map}
use Rattle.std.specs.Int.{w64, to_be_bytes}
use Rattle.part_texts.specs.Listings.{Inventory, Listed}

-- a number, as eight bytes of which the first weighs most
unfoldable pub number_text : ℕ → List ℕ
number_text n = to_be_bytes w64 n

-- yes or no, as the number 1 or 0
abbrev pub flag_text : Bool → List ℕ
flag_text true = number_text 1
flag_text false = number_text 0

-- bytes behind their number
abbrev pub sized : List ℕ → List ℕ
sized bytes = number_text (length bytes) ++ bytes

-- a path: the number of its components, and each of them
abbrev pub counted_path_text : List (List ℕ) → List ℕ
counted_path_text path = number_text (length path) ++ flat_map sized path

-- a listed file: its length, and its path
abbrev pub file_text : Listed → List ℕ
file_text f = number_text f.bytes ++ counted_path_text f.path

-- what was listed, and what is made of it
abbrev pub listing_text : Inventory → List ℕ
listing_text l =
    number_text l.piece_length ++ (flag_text l.hybrid ++ (sized l.name
    ++ (number_text (length l.files) ++ flat_map file_text l.files)))

-- the first line, with the version
abbrev pub version_line : List ℕ
version_line = codes "btcheck part of a torrent 1" ++ 10 ∷ []

-- what stands before what was hashed: which part it is, from 1, of how many, and of what
abbrev pub head_text : ℕ → ℕ → List ℕ → List ℕ
head_text part parts listing =
    version_line ++ (number_text (part + 1) ++ (number_text parts ++ sized listing))
