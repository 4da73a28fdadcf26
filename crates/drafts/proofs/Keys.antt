-- How the keys and the other fixed parts of a draft's text are spelled.
use Rattle.std.proofs.Common.{◌≡◌, List, ℕ, [], ◌∷◌, ◌++◌, pos, refl, append_assoc}
use Rattle.std.proofs.lemmas.List.{append-nil}
use Rattle.std.specs.Prelude.{codes}
use Rattle.std.specs.Fmt.{digits}
use Rattle.benc.specs.Spelling.{integer, string}

pub no_key : string [] ≡ codes "0:"
unfolding digits
no_key = refl

pub length_key : string (codes "length") ≡ codes "6:length"
unfolding digits
length_key = refl

pub root_key : string (codes "pieces root") ≡ codes "11:pieces root"
unfolding digits
root_key = refl

pub path_key : string (codes "path") ≡ codes "4:path"
unfolding digits
path_key = refl

pub attr_key : string (codes "attr") ≡ codes "4:attr"
unfolding digits
attr_key = refl

pub pad_mark : string (codes "p") ≡ codes "1:p"
unfolding digits
pad_mark = refl

pub pad_folder : string (codes ".pad") ≡ codes "4:.pad"
unfolding digits
pad_folder = refl

pub tree_key : string (codes "file tree") ≡ codes "9:file tree"
unfolding digits
tree_key = refl

pub files_key : string (codes "files") ≡ codes "5:files"
unfolding digits
files_key = refl

pub version_key : string (codes "meta version") ≡ codes "12:meta version"
unfolding digits
version_key = refl

pub version_two : integer (pos 2) ≡ codes "i2e"
unfolding digits
version_two = refl

pub name_key : string (codes "name") ≡ codes "4:name"
unfolding digits
name_key = refl

pub piece_length_key : string (codes "piece length") ≡ codes "12:piece length"
unfolding digits
piece_length_key = refl

pub pieces_key : string (codes "pieces") ≡ codes "6:pieces"
unfolding digits
pieces_key = refl

pub info_key : string (codes "info") ≡ codes "4:info"
unfolding digits
info_key = refl

pub layers_key : string (codes "piece layers") ≡ codes "12:piece layers"
unfolding digits
layers_key = refl

-- ---- dictionaries, by their parts

file_parts : (k0 k n root : List ℕ) → (k0 ++ 100 ∷ k) ++ (n ++ (root ++ 101 ∷ [])) ≡ k0 ++ ((100 ∷ ((k ++ (n ++ root)) ++ 101 ∷ [])) ++ [])
file_parts k0 k n root = simp (append_assoc, append-nil)

pub file_text : (n root : List ℕ) → codes "0:d6:length" ++ (n ++ (root ++ codes "e")) ≡ string []
    ++ ((100 ∷ ((string (codes "length") ++ (n ++ root)) ++ 101 ∷ [])) ++ [])
file_text n root = rw (no_key, length_key) (file_parts (codes "0:") (codes "6:length") n root)

pub root_text : (root : List ℕ) → codes "11:pieces root" ++ root ≡ string (codes "pieces root") ++ (root ++ [])
root_text root = rw root_key (simp append-nil)

entry_parts : (k m n path : List ℕ) → (100 ∷ k) ++ (n ++ ((m ++ 108 ∷ []) ++ (path ++ 101 ∷ (101 ∷ []))))
    ≡ 100 ∷ ((k ++ (n ++ (m ++ ((108 ∷ (path ++ 101 ∷ [])) ++ [])))) ++ 101 ∷ [])
entry_parts k m n path = simp (append_assoc, append-nil)

pub list_entry_text : (n path : List ℕ) → codes "d6:length" ++ (n ++ (codes "4:pathl" ++ (path ++ codes "ee")))
    ≡ 100 ∷ ((string (codes "length") ++ (n ++ (string (codes "path") ++ ((108 ∷ (path ++ 101 ∷ [])) ++ [])))) ++ 101 ∷ [])
list_entry_text n path = rw (length_key, path_key) (entry_parts (codes "6:length") (codes "4:path") n path)

pad_parts : (a b k m o n name : List ℕ) → (100 ∷ (a ++ (b ++ k))) ++ (n ++ ((m ++ 108 ∷ o) ++ (name ++ 101 ∷ (101 ∷ []))))
    ≡ 100 ∷ ((a ++ (b ++ (k ++ (n ++ (m ++ ((108 ∷ ((o ++ (name ++ [])) ++ 101 ∷ [])) ++ [])))))) ++ 101 ∷ [])
pad_parts a b k m o n name = simp (append_assoc, append-nil)

pub pad_text : (n name : List ℕ) → codes "d4:attr1:p6:length" ++ (n ++ (codes "4:pathl4:.pad" ++ (name ++ codes "ee")))
    ≡ 100 ∷ ((string (codes "attr") ++ (string (codes "p")
    ++ (string (codes "length") ++ (n ++ (string (codes "path") ++ ((108 ∷ ((string (codes ".pad") ++ (name ++ [])) ++ 101 ∷ [])) ++ [])))))) ++ 101 ∷ [])
pad_text n name = rw (attr_key, pad_mark, length_key, path_key, pad_folder) (pad_parts (codes "4:attr") (codes "1:p") (codes "6:length") (codes "4:path")
    (codes "4:.pad") n name)

torrent_parts : (a b info layers : List ℕ) → (100 ∷ a) ++ (info ++ ((b ++ 100 ∷ []) ++ (layers ++ 101 ∷ (101 ∷ [])))) ≡ 100 ∷
    ((a ++ (info ++ (b ++ ((100 ∷ (layers ++ 101 ∷ [])) ++ [])))) ++ 101 ∷ [])
torrent_parts a b info layers = simp (append_assoc, append-nil)

pub torrent_text : (info layers : List ℕ) → codes "d4:info" ++ (info ++ (codes "12:piece layersd" ++ (layers ++ codes "ee")))
    ≡ 100 ∷ ((string (codes "info") ++ (info ++ (string (codes "piece layers") ++ ((100 ∷ (layers ++ 101 ∷ [])) ++ [])))) ++ 101 ∷ [])
torrent_text info layers = rw (info_key, layers_key) (torrent_parts (codes "4:info") (codes "12:piece layers") info layers)

last_parts : (a b c d name n pieces : List ℕ) → (a ++ (b ++ c)) ++ (name ++ (d ++ (n ++ pieces))) ≡ a ++ (b ++ (c ++ (name ++ (d ++ (n ++ pieces)))))
last_parts a b c d name n pieces = simp append_assoc

pub last_text : (name n pieces two : List ℕ) → two ≡ codes "i2e" → codes "12:meta versioni2e4:name" ++ (name ++ (codes "12:piece length" ++ (n ++ pieces)))
    ≡ string (codes "meta version") ++ (two ++ (string (codes "name") ++ (name ++ (string (codes "piece length") ++ (n ++ pieces)))))
last_text name n pieces two e = rw (version_key, e, name_key, piece_length_key) (last_parts (codes "12:meta version") (codes "i2e") (codes "4:name")
    (codes "12:piece length") name n pieces)

info_parts : (a tree list last : List ℕ) → ((100 ∷ a) ++ 100 ∷ []) ++ (tree ++ (101 ∷ (list ++ (last ++ 101 ∷ [])))) ≡ 100 ∷
    ((a ++ ((100 ∷ (tree ++ 101 ∷ [])) ++ (list ++ last))) ++ 101 ∷ [])
info_parts a tree list last = simp append_assoc

pub info_text : (tree list last : List ℕ) → codes "d9:file treed" ++ (tree ++ (codes "e" ++ (list ++ (last ++ codes "e"))))
    ≡ 100 ∷ ((string (codes "file tree") ++ ((100 ∷ (tree ++ 101 ∷ [])) ++ (list ++ last))) ++ 101 ∷ [])
info_text tree list last = rw tree_key (info_parts (codes "9:file tree") tree list last)
