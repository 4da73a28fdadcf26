-- What is known of a file that is read from one of its bytes on.
use Rattle.std.specs.Prelude.{ℕ, List, drop, Option, option_map}

-- what is known of a path, and so of the bytes from this number on
abbrev pub from_offset : ℕ → Option (Option (List ℕ)) → Option (Option (List ℕ))
from_offset offset known = option_map (option_map (drop offset)) known
