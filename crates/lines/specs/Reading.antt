-- Lines at the front of a text.
use Rattle.std.specs.Prelude.{◌≡◌, ℕ, List, [], ◌∷◌, ◌++◌, length, take, Option, Some, None}
use Rattle.lines.specs.declared.compared.Compared.{Compared}

-- the text begins so
abbrev pub BeginsWith : List ℕ → List ℕ → Type 0
BeginsWith front text = (more : List ℕ) × (text ≡ front ++ more)

-- one byte, or none
abbrev pub one_or_none : Option ℕ → List ℕ
one_or_none None = []
one_or_none (Some b) = b ∷ []

-- what was written to be compared: bytes of the text, and behind them one that is not the text's
-- next, if it differs there
abbrev pub bytes_taken : Compared → List ℕ
bytes_taken c = take c.taken c.text.now ++ one_or_none c.other

-- the same behind the text and its length, so that it shows in what was written that a call leaves
-- the text as it is
abbrev pub compared_bytes : Compared → List ℕ
compared_bytes c = length c.text.now ∷ (c.text.now ++ bytes_taken c)
