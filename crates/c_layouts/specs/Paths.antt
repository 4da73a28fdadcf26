-- What is laid out of a file's path.
use Rattle.std.specs.Prelude.{◌≡◌, ◌⊎◌, ℕ, ◌-◌, ◌^◌, ◌<◌, List, ◌++◌, drop, length, min}
use Rattle.std.specs.List.{join_with_byte}
use Rattle.filetree.specs.FileTree.{slash}

-- the components of a path, joined by `/`
abbrev pub joined_path_text : List (List ℕ) → List ℕ
joined_path_text path = join_with_byte slash path

-- the text at the front of the room, whose other bytes stay; or the room is too small, and stays as
-- it is. The length is written in both cases, if it has a place in 64 bits
abbrev pub HasPath : List ℕ → ℕ → List ℕ → List ℕ → ℕ → Type 0
HasPath text status room room' len = (len ≡ min (length text) (2 ^ 64 - 1))
    × (((status ≡ 0) × (room' ≡ text ++ drop (length text) room))
    ⊎ ((status ≡ 7) × ((length room < length text) × (room' ≡ room))))
