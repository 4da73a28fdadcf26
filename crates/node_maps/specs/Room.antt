-- The places of a tree that have room in a node map: a `put` there cannot fail.
use Rattle.std.specs.Prelude.{ℕ, ◌+◌, ◌-◌, ◌/◌, ◌<◌, ◌≤◌, ◌==◌, if◌then◌else◌}
use Rattle.node_maps.specs.Cell.{page_length}
use Rattle.node_maps.specs.Places.{PartialTree, IsKnown}

-- the places that have room
abbrev pub Room : Type 1
Room = ℕ → ℕ → Type 0

-- each place that had room has room
abbrev pub KeepsRoom : Room → Room → Type 0
KeepsRoom old new = (l i : ℕ) → old l i → new l i

-- `count` places of a layer have room, from one on
abbrev pub HasRoomInRow : Room → ℕ → ℕ → ℕ → Type 0
HasRoomInRow room layer from count = (i : ℕ) → from ≤ i → i < from + count → room layer i

-- each place at which K has a value has room
abbrev pub HasRoomFor : PartialTree → Room → Type 0
HasRoomFor K room = (l i : ℕ) → IsKnown K l i → room l i

-- how many pages have one of `count` places of a layer, from one on
abbrev pub page_span : ℕ → ℕ → ℕ
page_span from count =
    (if count == 0 then 0 else (from + count - 1) / page_length + 1 - from / page_length)
