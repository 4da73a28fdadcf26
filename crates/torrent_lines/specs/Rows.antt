-- What `show` prints of a torrent.
use Rattle.std.specs.Prelude.{ℕ, List, [], ◌∷◌, ◌++◌, length, map, Option, Some, None, option_map, slice_get}
use Rattle.lines.specs.Rows.{Row, spell}
use Rattle.lines.specs.Table.{file_row, files_row, hash_v1_row, hash_v2_row, name_row, piece_length_row}
use Rattle.lines.specs.Texts.{text_of}
use Rattle.opening.specs.Description.{Description, FileEntry, TreeEntry, Version1}

-- the root of a file by the number of its tree
abbrev pub tree_root : List TreeEntry → Option ℕ → Option (List ℕ)
tree_root trees None = None
tree_root trees (Some n) = option_map (λ t. t.root) (slice_get trees n)

-- the line of a file
abbrev pub entry_row : List TreeEntry → FileEntry → Row
entry_row trees file = file_row file.length (tree_root trees file.tree) file.path

-- the lines of the files
abbrev pub entry_rows : List TreeEntry → List FileEntry → List Row
entry_rows trees files = map (entry_row trees) files

-- the line of the version 1 info-hash, for a hybrid alone
abbrev pub v1_hash_rows : Option Version1 → List ℕ → List Row
v1_hash_rows None hash = []
v1_hash_rows (Some part) hash = hash_v1_row hash ∷ []

-- all lines
abbrev pub show_rows : Description → List Row
show_rows t =
    name_row t.name ∷ piece_length_row t.piece_length ∷ hash_v2_row t.info_hash_v2
    ∷ (v1_hash_rows t.v1 t.info_hash_v1
    ++ (files_row (length t.files) ∷ entry_rows t.trees t.files))

-- what is printed
abbrev pub show_text : Description → List ℕ
show_text t = spell text_of (show_rows t)
