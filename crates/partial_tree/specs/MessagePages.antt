-- How many pages have the places of which a hashes message claims something.
use Rattle.std.specs.Prelude.{ℕ, zero, suc, ◌+◌, ◌-◌, ◌*◌, ◌/◌, ◌^◌, ◌≤◌, List}
use Rattle.wire.specs.declared.message.Ask.{Ask}
use Rattle.node_maps.specs.Digest.{Hash}
use Rattle.node_maps.specs.Room.{page_span}
use Rattle.partial_tree.specs.Claims.{span, top_layer, GoodRange, GoodCount}

-- how far above layer l stands the node under which all claims of that layer lie, for a base range
-- of 2 ^ k places of layer `base`
abbrev pub row_height_of : ℕ → ℕ → ℕ → ℕ
row_height_of base k l = 1 + (base + k - suc l)

-- the first place of layer l under that node, of 2 ^ row_height_of many, for a range from `index`
-- on
abbrev pub row_first_of : ℕ → ℕ → ℕ → ℕ → ℕ
row_first_of base index k l =
    index / 2 ^ (l - base) / 2 ^ row_height_of base k l * 2 ^ row_height_of base k l

-- how many pages these places have on the first n layers, from the base up
abbrev pub pages_of_layers : ℕ → ℕ → ℕ → ℕ → ℕ
pages_of_layers base index k zero = 0
pages_of_layers base index k (suc n) = pages_of_layers base index k n
    + page_span (row_first_of base index k (base + n)) (2 ^ row_height_of base k (base + n))

-- how many they have below the layer `top`, with the one of the top itself
abbrev pub pages_up_to : ℕ → ℕ → ℕ → ℕ → ℕ
pages_up_to base index k top = pages_of_layers base index k (top - base) + 1

-- how many pages a message makes at most: 16, 8, 4 and 2 for 8192 hashes and the three layers
-- above, and one for each further layer up to the root of the highest tree
abbrev pub most_pages : ℕ
most_pages = 59

-- a message whose range and count are good needs no more
abbrev pub MessageNeedsFewPages : Type 0
MessageNeedsFewPages = (h : ℕ) (ask : Ask) (hashes : List Hash) → h ≤ 32 → GoodRange h ask
    → GoodCount h ask hashes
    → pages_up_to ask.base ask.index (span ask) (top_layer ask hashes) ≤ most_pages
