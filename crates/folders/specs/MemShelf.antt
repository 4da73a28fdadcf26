-- What a shelf in memory holds.
use Rattle.std.specs.Prelude.{ℕ, List, map, find, Bool, Option, option_map}
use Rattle.folders.specs.Shelf.{Listing, is_path}
use Rattle.folders.specs.declared.memory.file.MemFile.{MemFile}

-- the bytes of a file's path components
abbrev pub path_of : MemFile → List (List ℕ)
path_of f = map (λ s. s.now) f.path.now

-- the first file with this path
abbrev pub first_with : List (List ℕ) → List MemFile → Option MemFile
first_with path files = find (λ f. is_path path (path_of f)) files

-- what stands under a path: the bytes of the first file that has it, or nothing
abbrev pub content_under : List MemFile → List (List ℕ) → Option (List ℕ)
content_under files path = option_map (λ f. f.content.now) (first_with path files)

-- the listing of these files
abbrev pub listing_of : List MemFile → Bool → List (List (List ℕ)) → Listing
listing_of files has_odd_name specials = record {
  files = map path_of files;
  has_odd_name = has_odd_name;
  specials = specials;
}
