-- What rows of pages hold: one row for each layer, in it pages of 512 cells, and in a cell a hash
-- with its mark.
use Rattle.std.specs.Prelude.{◌≡◌, ◌≢◌, ◌⊎◌, ◌≤◌, ℕ, zero, suc, ◌+◌, ◌/◌, ◌%◌, ◌^◌, ◌<◌, List, [], slice_get, Option, Some, IsSome}
use Rattle.std.specs.Option.{option_and_then, option_map, unwrap_or}
use Rattle.node_maps.specs.declared.paged_row.PagedRow.{PagedRow}
use Rattle.node_maps.specs.declared.page.Cell.{Cell}
use Rattle.node_maps.specs.Digest.{Hash}
use Rattle.node_maps.specs.Places.{PartialTree, IsTreePlace, most_layers}
use Rattle.node_maps.specs.Known.{Marked}
use Rattle.node_maps.specs.Cell.{hash_of, mark_of, page_length}
use Rattle.node_maps.specs.declared.page.Page.{Page}
use Rattle.node_maps.specs.Pages.{marks_where, cell_of, AreSpare}
use Rattle.node_maps.specs.PagedRow.{pages_of}

-- the page of a layer and a number, if there is one
abbrev pub page_at : List PagedRow → ℕ → ℕ → Option Page
page_at rows l n =
    option_and_then (λ row. pages_of row n) (slice_get rows l)

-- the cell of a place
abbrev pub cell_at : List PagedRow → ℕ → ℕ → Cell
cell_at rows l i = cell_of (page_at rows l (i / page_length)) (i % page_length)

-- the hashes that the cells hold
abbrev pub hashes : List PagedRow → PartialTree
hashes rows l i = hash_of (cell_at rows l i)

-- the place lies in a tree of height h and has a page
pub record HasPage (h : ℕ) (rows : List PagedRow) (l i : ℕ) : Type 0 where
  pub place : IsTreePlace h l i
  pub page : IsSome (page_at rows l (i / page_length))

-- each cell that holds a hash is that of a place of a tree of height h
pub record HoldsTree (h : ℕ) (rows : List PagedRow) : Type 0 where
  pub place : (l i : ℕ) (v : Hash) → hashes rows l i ≡ Some v → IsTreePlace h l i

-- the leaves whose cells are marked
abbrev pub marked_cells : ℕ → List PagedRow → Marked
marked_cells h rows = marks_where (λ i. mark_of (cell_at rows 0 i)) (2 ^ h)

-- how many pages the row of a layer has
abbrev pub row_pages : List PagedRow → ℕ → ℕ
row_pages rows l = unwrap_or (option_map (λ row. row.count) (slice_get rows l)) 0

-- how many pages the rows below `top` have
abbrev pub held_below : List PagedRow → ℕ → ℕ
held_below rows zero = 0
held_below rows (suc l) = held_below rows l + row_pages rows l

-- how many pages there are
unfoldable pub held_pages : List PagedRow → ℕ
held_pages rows = held_below rows most_layers

-- no page is there that holds nothing
pub record AreTrimmed (rows : List PagedRow) (top : ℕ) : Type 0 where
  pub full : (l : ℕ) (row : PagedRow) → l < top → slice_get rows l ≡ Some row
      → AreSpare (pages_of row) []

-- every place has the cell that it had
abbrev pub AreSamePagedCells : List PagedRow → List PagedRow → Type 0
AreSamePagedCells old new = (l i : ℕ) → cell_at new l i ≡ cell_at old l i

-- every place but this one has the cell that it had
abbrev pub AreSamePagedCellsBut : ℕ → ℕ → List PagedRow → List PagedRow → Type 0
AreSamePagedCellsBut layer index old new =
    (l i : ℕ) → (l ≢ layer) ⊎ (i ≢ index) → cell_at new l i ≡ cell_at old l i

-- each page that was there is there
abbrev pub KeepPages : List PagedRow → List PagedRow → Type 0
KeepPages old new = (l n : ℕ) → IsSome (page_at old l n) → IsSome (page_at new l n)

-- each layer has as many pages as before
abbrev pub AreAsMany : List PagedRow → List PagedRow → Type 0
AreAsMany old new = (l : ℕ) → row_pages new l ≡ row_pages old l

-- no layer has more pages than before
abbrev pub AreNotMore : List PagedRow → List PagedRow → Type 0
AreNotMore old new = (l : ℕ) → row_pages new l ≤ row_pages old l

-- a layer has at most this many pages more, and each other as many as before
pub record GrowsBy (layer more : ℕ) (old new : List PagedRow) : Type 0 where
  pub here : row_pages new layer ≤ row_pages old layer + more
  pub others : (l : ℕ) → l ≢ layer → row_pages new l ≡ row_pages old l

-- the layer has the pages from one number on up to another
abbrev pub HasPages : List PagedRow → ℕ → ℕ → ℕ → Type 0
HasPages rows layer first end =
    (n : ℕ) → first ≤ n → n < end → IsSome (page_at rows layer n)
