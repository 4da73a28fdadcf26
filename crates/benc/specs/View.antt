-- The value that a `Value` stands for.
use Rattle.std.specs.Prelude.{ℕ, List, [], ◌∷◌, map}
use Rattle.benc.specs.Value.{Bencode, int, text, list, dict, Items, no_items, item, Pairs, no_pairs, pair}
use Rattle.benc.specs.declared.value.Value.{Value, fold-Value}
use Rattle.benc.specs.declared.value.Value.TheOpen.{Value-F, Pair-F}
use Rattle.benc.specs.declared.value.Pair.{Pair, fold-Pair}

-- a pair with its value already seen
abbrev pub Seen : Type 0
Seen = List ℕ × Bencode

-- a list of values as items
abbrev pub items_of : List Bencode → Items
items_of [] = no_items
items_of (v ∷ vs) = item v (items_of vs)

-- a list of pairs as pairs of a dictionary
abbrev pub pairs_of : List Seen → Pairs
pairs_of [] = no_pairs
pairs_of (p ∷ ps) = pair p.0 p.1 (pairs_of ps)

-- one level, with each value inside already seen
abbrev pub view_step : Value-F Bencode Seen → Bencode
view_step (Value-F.Int z) = int z
view_step (Value-F.Bytes s) = text s.now
view_step (Value-F.List v) = list (items_of v.items)
view_step (Value-F.Dict v) = dict (pairs_of v.items)

-- one pair, with its value already seen
abbrev pub pair_step : Pair-F Bencode Seen → Seen
pair_step p = (p.key.now, p.value)

-- a value without where it lies in memory
abbrev pub view : Value → Bencode
view = fold-Value Bencode Seen view_step pair_step

-- a pair without where it lies in memory
abbrev pub pair_view : Pair → Seen
pair_view = fold-Pair Bencode Seen view_step pair_step

-- values without where they lie in memory
abbrev pub items_view : List Value → Items
items_view vs = items_of (map view vs)

-- pairs without where they lie in memory
abbrev pub pairs_view : List Pair → Pairs
pairs_view ps = pairs_of (map pair_view ps)
