-- What rows of cells hold: one row for each layer, and in it a cell for each place that has room;
-- and what a list of marks holds.
use Rattle.std.specs.Prelude.{◌≡◌, ◌≢◌, ◌⊎◌, ℕ, zero, suc, ◌<◌, Bool, false, if◌then◌else◌, List, length, slice_index_or, slice_get, Option, None, Vec}
use Rattle.std.specs.Option.{option_and_then, option_map, unwrap_or}
use Rattle.std.specs.declared.alloc.Global.{Global}
use Rattle.std.specs.FinSet as set
use Rattle.node_maps.specs.Digest.{Hash}
use Rattle.node_maps.specs.Places.{PartialTree, IsTreePlace}
use Rattle.node_maps.specs.Known.{Marked}
use Rattle.node_maps.specs.Runs.{LayerHashes}

-- a row of cells of one layer, each of which holds a hash or nothing
abbrev pub FlatRow : Type 0
FlatRow = Vec (Option Hash) Global

-- the hash in the cell of a place
abbrev pub cells : List FlatRow → PartialTree
cells rows l i =
    option_and_then (λ row. option_and_then (λ o. o) (slice_get row.items i)) (slice_get rows l)

-- the hash in a cell of a row
abbrev pub hash_in_row : List (Option Hash) → LayerHashes
hash_in_row row i = slice_index_or row i None

-- every place has the cell that it had
abbrev pub AreSameFlatCells : List FlatRow → List FlatRow → Type 0
AreSameFlatCells old new = (l i : ℕ) → cells new l i ≡ cells old l i

-- every place but this one has the cell that it had
abbrev pub AreSameFlatCellsBut : ℕ → ℕ → List FlatRow → List FlatRow → Type 0
AreSameFlatCellsBut layer index old new =
    (l i : ℕ) → (l ≢ layer) ⊎ (i ≢ index) → cells new l i ≡ cells old l i

-- how many cells the row of a layer has
abbrev pub row_cells : List FlatRow → ℕ → ℕ
row_cells rows l = unwrap_or (option_map (λ row. length row.items) (slice_get rows l)) 0

-- the place has a cell
abbrev pub HasCell : List FlatRow → ℕ → ℕ → Type 0
HasCell rows l i = i < row_cells rows l

-- each cell is that of a place of a tree of height h
pub record HasTreeCells (h : ℕ) (rows : List FlatRow) : Type 0 where
  pub place : (l i : ℕ) → HasCell rows l i → IsTreePlace h l i

-- the numbers below n whose mark is set
unfoldable pub marks_below : List Bool → ℕ → Marked
marks_below marks zero = set.empty
marks_below marks (suc n) =
    (if slice_index_or marks n false then set.insert (marks_below marks n) n
    else marks_below marks n)

-- the numbers whose mark is set
abbrev pub marked_leaves : List Bool → Marked
marked_leaves marks = marks_below marks (length marks)
