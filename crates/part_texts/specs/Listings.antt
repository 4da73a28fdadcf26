-- What a folder was found to hold, and what is made of it.
use Rattle.std.specs.Global.{Global, Vec}
use Rattle.std.specs.Prelude.{ℕ, Bool, List, [], ◌∷◌, String, map, string_bytes}
use Rattle.part_texts.specs.declared.listing.ListedFile.{ListedFile}
use Rattle.part_texts.specs.declared.listing.Listing.{Listing}

-- a file: the components of its path, and its length in bytes
pub record Listed : Type 0 where
  pub path : List (List ℕ)
  pub bytes : ℕ

-- the display name, the piece length, whether it is to be a hybrid, and the files
pub record Inventory : Type 0 where
  pub name : List ℕ
  pub piece_length : ℕ
  pub hybrid : Bool
  pub files : List Listed

abbrev pub listed : ListedFile → Listed
listed f = record { path = map string_bytes f.path.items; bytes = f.length }

abbrev pub inventory : Listing → Inventory
inventory l = record {
  name = string_bytes l.name;
  piece_length = l.piece_length;
  hybrid = l.hybrid;
  files = map listed l.files.items;
}

-- the components of a path
abbrev pub texts_of : Vec (String Global) → List (List ℕ)
texts_of path = map string_bytes path.items

-- the files with these paths and of these lengths, in turn
abbrev pub files_at_paths : List (List (List ℕ)) → List ℕ → List Listed
files_at_paths [] lengths = []
files_at_paths (path ∷ paths) [] = []
files_at_paths (path ∷ paths) (n ∷ lengths) =
    record { path = path; bytes = n } ∷ files_at_paths paths lengths
