-- How what is held of pieces is kept: in rows of cells.
use Rattle.std.specs.Prelude.{◌≡◌, ℕ, ◌+◌, ◌*◌, ◌<◌, ◌≤◌, List, map, length, take, drop, slice_index_or, Some}
use Rattle.std.specs.FinMap.{FinMap, entries, from_sorted, get, len}
use Rattle.slab.specs.Slab as slab
use Rattle.slab.specs.Slab.{Slab, slab_len}
use Rattle.node_maps.specs.Known.{place_cmp}
use Rattle.fixed_maps.specs.FixedMaps.{FixedMapSeen, map_of, map_room, most_room}
use Rattle.holdings.specs.Cells.{Cells}
use Rattle.holdings.specs.Holdings.{PieceSeen, KeptPieces, held_in}

-- the row of a piece, and how many blocks it has
abbrev pub RowOf : Type 0
RowOf = ℕ × ℕ

-- what contracts see of a piece: of each row, only the cells of its blocks
abbrev pub seen_row : Cells → List ℕ → ℕ → RowOf → PieceSeen
seen_row cells newest width p = record {
  cells = take p.1 (drop (p.0 * width) cells);
  newest = slice_index_or newest p.0 0;
}

-- what contracts see of all pieces
abbrev pub seen_rows : Cells → List ℕ → ℕ → FinMap place_cmp RowOf → FinMap place_cmp PieceSeen
seen_rows cells newest width m =
    from_sorted (map (λ e. (e.0, seen_row cells newest width e.1)) (entries m))

-- how many digests are held of the piece of an entry
abbrev pub weigh : Cells → ℕ → (ℕ × ℕ) × RowOf → ℕ
weigh cells width e = held_in (take e.1.1 (drop (e.1.0 * width) cells))

abbrev pub seen_table : FixedMapSeen → ℕ → Cells → List ℕ → ℕ → KeptPieces
seen_table order room cells newest width = record {
  pieces = seen_rows cells newest width (map_of order);
  room = room;
  width = width;
}

-- a row is that of one piece at most: it says which. Each row is wide enough for its piece, and
-- stands inside; there is room for as many rows as pieces and no more, and memory for just these
pub record IsTable (order : FixedMapSeen) (rows : Slab (ℕ × ℕ)) (cells : Cells) (newest : List ℕ)
    (width room most_cells most_rows : ℕ) : Type 0 where
  pub back : (q : ℕ × ℕ) (p : RowOf) → get (map_of order) q ≡ Some p → slab.get rows p.0 ≡ Some q
  pub low : (q : ℕ × ℕ) (p : RowOf) → get (map_of order) q ≡ Some p → p.1 ≤ width
  pub inside : (q : ℕ × ℕ) (p : RowOf) → get (map_of order) q ≡ Some p
      → p.0 * width + width ≤ length cells
  pub timed : (q : ℕ × ℕ) (p : RowOf) → get (map_of order) q ≡ Some p → p.0 < length newest
  pub count : slab_len rows ≡ len (map_of order)
  pub all : slab_len rows ≤ rows.capacity
  pub room_rows : room ≡ rows.capacity
  pub room_map : room ≤ map_room order
  pub few_map : map_room order ≤ most_room room
  pub wide : rows.capacity * width ≡ most_cells
  pub long : rows.capacity ≡ most_rows

-- the row of a piece, and where its cells begin and end among this number
pub record IsRowAt (m : FinMap place_cmp RowOf) (width len : ℕ) (q : ℕ × ℕ) (row start end : ℕ)
    : Type 0 where
  pub size : ℕ
  pub there : get m q ≡ Some (row, size)
  pub low : size ≤ width
  pub start_is : start ≡ row * width
  pub end_is : end ≡ start + size
  pub inside : start + width ≤ len
