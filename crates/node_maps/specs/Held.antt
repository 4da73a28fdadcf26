-- How many pages what is known of a tree takes.
use Rattle.std.specs.Prelude.{ℕ, zero, suc, ◌+◌, ◌/◌, ◌==◌, if◌then◌else◌, List, [], ◌∷◌}
use Rattle.std.specs.FinMap as map
use Rattle.std.specs.FinSet as set
use Rattle.std.specs.Ordering.{nat_cmp}
use Rattle.node_maps.specs.Cell.{page_length}
use Rattle.node_maps.specs.Known.{Known}
use Rattle.node_maps.specs.Places.{most_layers}

-- the numbers of the pages of these places, as far as they lie on layer l
abbrev pub numbers_on : ℕ → List (ℕ × ℕ) → List ℕ
numbers_on l [] = []
numbers_on l (place ∷ places) =
    (if place.0 == l then place.1 / page_length ∷ numbers_on l places else numbers_on l places)

-- how many pages of layer l have a known place
abbrev pub pages_on : Known → ℕ → ℕ
pages_on K l = set.len (set.from_list {R = nat_cmp} (numbers_on l (map.keys K)))

-- how many pages of the layers below `top` have a known place
abbrev pub pages_below : Known → ℕ → ℕ
pages_below K zero = 0
pages_below K (suc l) = pages_below K l + pages_on K l

-- how many pages have a known place
unfoldable pub page_count : Known → ℕ
page_count K = pages_below K most_layers
