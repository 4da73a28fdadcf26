-- The pages of one layer.
use Rattle.std.specs.Prelude.{◌≡◌, ◌≢◌, ℕ, ◌<◌, ◌≤◌, IsSome}
use Rattle.node_maps.specs.Pages.{Numbered, cell_in}
use Rattle.node_maps.specs.PageIndexes.{on_rows}
use Rattle.node_maps.specs.declared.page.Cell.{Cell}
use Rattle.node_maps.specs.Cell.{hash_of}
use Rattle.node_maps.specs.Runs.{LayerHashes}
use Rattle.node_maps.specs.declared.paged_row.PagedRow.{PagedRow}

-- the pages of a layer
unfoldable pub pages_of : PagedRow → Numbered
pages_of row = on_rows row.pages

-- the cell of a place of the layer
abbrev pub cell_of_row : PagedRow → ℕ → Cell
cell_of_row row i = cell_in (pages_of row) i

-- the hashes of the layer
abbrev pub row_hashes : PagedRow → LayerHashes
row_hashes row i = hash_of (cell_of_row row i)

-- there is a page of this number
abbrev pub HasRowPage : PagedRow → ℕ → Type 0
HasRowPage row n = IsSome (pages_of row n)

-- every place has the cell that it had
abbrev pub AreSameRowCells : PagedRow → PagedRow → Type 0
AreSameRowCells old new = (i : ℕ) → cell_of_row new i ≡ cell_of_row old i

-- every place but this one has the cell that it had
abbrev pub AreSameRowCellsBut : ℕ → PagedRow → PagedRow → Type 0
AreSameRowCellsBut index old new = (i : ℕ) → i ≢ index → cell_of_row new i ≡ cell_of_row old i

-- each page that was there is there
abbrev pub KeepsRowPages : PagedRow → PagedRow → Type 0
KeepsRowPages old new = (n : ℕ) → HasRowPage old n → HasRowPage new n

-- the pages from one number on up to another are there
abbrev pub HasRowPages : PagedRow → ℕ → ℕ → Type 0
HasRowPages row first end = (n : ℕ) → first ≤ n → n < end → HasRowPage row n
