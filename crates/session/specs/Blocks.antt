-- What a session says of the blocks of one piece message (BEP 3, "piece"; BEP 52).
use Rattle.std.specs.Prelude.{◌≡◌, ℕ, zero, suc, ◌+◌, ◌-◌, ◌^◌, ◌<◌, List, [], ◌∷◌, ◌++◌, length, take, replicate, Option, Some, None, Result, Ok, Err}
use Rattle.hashtree.specs.Tree.{block}
use Rattle.partial_tree.specs.declared.refusal.BlockRefusal.{BlockRefusal}

-- the file and its block at the message's place, and why each block from there on is refused, if it
-- is: one that is not is verified and marked
pub record BlocksSeen : Type 0 where
  pub file : ℕ
  pub first : ℕ
  pub refusals : List (Option BlockRefusal)

-- the file and the block of entry m
abbrev pub place_of_entry : BlocksSeen → ℕ → ℕ × ℕ
place_of_entry v m = (v.file, v.first + m)

-- the file and the block of entry m, which is marked, or why it is refused
abbrev pub entry_of : BlocksSeen → ℕ → Option BlockRefusal → Result (ℕ × ℕ) BlockRefusal
entry_of v m None = Ok (place_of_entry v m)
entry_of v m (Some r) = Err r

-- how many bytes a block has that is not its file's last (BEP 52)
abbrev pub block_length : ℕ
block_length = 16384

-- a block of a file by its number, and the bytes that a message has for it
pub record Cut : Type 0 where
  pub number : ℕ
  pub bytes : List ℕ

-- the cuts of a message's bytes for the first k blocks of a file from this one on: block m of the
-- bytes is for block first + m of the file
unfoldable pub cuts : ℕ → List ℕ → ℕ → List Cut
cuts first bytes zero = []
cuts first bytes (suc m) =
    cuts first bytes m ++ record { number = first + m; bytes = block bytes m } ∷ []

-- the most blocks that one piece message carries
abbrev pub most_blocks : ℕ
most_blocks = 17

-- a list of refusals as it stands in an array
abbrev pub cells_of : List (Option BlockRefusal) → List (Option BlockRefusal)
cells_of rs = rs ++ replicate (most_blocks - length rs) None

-- an array holds this many refusals, and nothing behind them
pub record IsArrayOf (cells : List (Option BlockRefusal)) (count first : ℕ) : Type 0 where
  pub size : length cells ≡ most_blocks
  pub count_is : length (take count cells) ≡ count
  pub cells_are : cells_of (take count cells) ≡ cells
  pub first_low : first + most_blocks < 2 ^ 64
