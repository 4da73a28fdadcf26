-- The text of a file tree, file by file. Public clauses do not name these.
use Rattle.std.specs.Prelude.{ℕ, suc, List, [], ◌∷◌, ◌++◌, if◌then◌else◌, replicate}
use Rattle.std.specs.Str.{bytes_eq}
use Rattle.benc.specs.Ascii.{dict_mark, end_mark}
use Rattle.benc.specs.Spelling.{string}

-- how many first components two paths share
abbrev pub shared : List (List ℕ) → List (List ℕ) → ℕ
shared [] q = 0
shared (k ∷ ks) [] = 0
shared (k ∷ ks) (l ∷ ls) = if bytes_eq k l then suc (shared ks ls) else 0

-- directories of these names begin, each inside the one before it
abbrev pub opened : List (List ℕ) → List ℕ
opened [] = []
opened (k ∷ ks) = string k ++ dict_mark ∷ opened ks

-- this many dictionaries end
abbrev pub closed : ℕ → List ℕ
closed n = replicate n end_mark
