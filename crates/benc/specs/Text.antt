-- The spelling of a value as a function, and which values have one (BEP 3, "bencoding").
use Rattle.std.specs.Prelude.{ℕ, ◌-◌, ◌<◌, ◌^◌, List, [], ◌∷◌, ◌++◌, length, Option, Some, None, FitsSigned}
use Rattle.std.specs.Int.{w64}
use Rattle.benc.specs.Ascii.{dict_mark, end_mark, list_mark}
use Rattle.benc.specs.Value.{Bencode, int, text, list, dict, Items, no_items, item, Pairs, no_pairs, pair}
use Rattle.benc.specs.Spelling.{max_open, string, integer, IsAbove}

-- the spelling of a value, which `encode` writes
abbrev mutual
  pub spelling : Bencode → List ℕ
  spelling (int z) = integer z
  spelling (text s) = string s
  spelling (list vs) = list_mark ∷ (items_spelling vs ++ end_mark ∷ [])
  spelling (dict ps) = dict_mark ∷ (pairs_spelling ps ++ end_mark ∷ [])

  -- the spellings of the items, one after another
  pub items_spelling : Items → List ℕ
  items_spelling no_items = []
  items_spelling (item v vs) = spelling v ++ items_spelling vs

  -- the keys and the spellings of their values, one after another
  pub pairs_spelling : Pairs → List ℕ
  pairs_spelling no_pairs = []
  pairs_spelling (pair k v ps) = string k ++ (spelling v ++ pairs_spelling ps)

-- keys ascend strictly, numbers fit 64 bits, byte strings are shorter than 10 ^ 10, and at most
-- `room` lists and dictionaries are open at once
abbrev mutual
  pub Fits : ℕ → Bencode → Type 0
  Fits room (int z) = FitsSigned w64 z
  Fits room (text s) = length s < 10 ^ 10
  Fits room (list vs) = (0 < room) × ItemsFit (room - 1) vs
  Fits room (dict ps) = (0 < room) × PairsFit (room - 1) None ps

  pub ItemsFit : ℕ → Items → Type 0
  ItemsFit room no_items = Unit {0}
  ItemsFit room (item v vs) = Fits room v × ItemsFit room vs

  pub PairsFit : ℕ → Option (List ℕ) → Pairs → Type 0
  PairsFit room before no_pairs = Unit {0}
  PairsFit room before (pair k v ps) =
      (length k < 10 ^ 10) × IsAbove k before × Fits room v × PairsFit room (Some k) ps

-- the value has a spelling, in which at most 128 lists and dictionaries are open at once
abbrev pub IsCanonical : Bencode → Type 0
IsCanonical v = Fits max_open v
