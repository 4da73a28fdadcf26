-- Bytes by their names in ASCII.
use Rattle.std.specs.Prelude.{ℕ}

-- the space, below which all bytes are control characters
abbrev pub space : ℕ
space = 32

-- the slash, which separates the components of a path
abbrev pub slash : ℕ
slash = 47

-- the backslash
abbrev pub backslash : ℕ
backslash = 92

-- the delete character
abbrev pub delete : ℕ
delete = 127
