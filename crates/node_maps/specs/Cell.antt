-- The cells of a page.
use Rattle.std.specs.Prelude.{ℕ, slice_index_or, Bool, true, false, ◌||◌, if◌then◌else◌, List, [], ◌∷◌, Option, Some, None}
use Rattle.node_maps.specs.declared.page.Cell.{Cell}
use Rattle.node_maps.specs.declared.page.Cell.TheVariants.{Empty, Known, Marked}
use Rattle.node_maps.specs.Digest.{Hash}

-- how many cells a page has
abbrev pub page_length : ℕ
page_length = 512

-- the hash of a cell
abbrev pub hash_of : Cell → Option Hash
hash_of Empty = None
hash_of (Known h) = Some h
hash_of (Marked h) = Some h

-- the hash of a cell in a list of cells
abbrev pub hash_in : List Cell → ℕ → Option Hash
hash_in cells i = hash_of (slice_index_or cells i Empty)

-- whether the cell's leaf is marked
abbrev pub mark_of : Cell → Bool
mark_of Empty = false
mark_of (Known h) = false
mark_of (Marked h) = true

-- the cell with a hash, and with a mark, if it has one or is to have one
abbrev pub with_hash : Cell → Hash → Bool → Cell
with_hash cell hash mark = (if mark || mark_of cell then Marked hash else Known hash)

-- whether no cell holds anything
abbrev pub is_blank : List Cell → Bool
is_blank [] = true
is_blank (Empty ∷ cells) = is_blank cells
is_blank (Known h ∷ cells) = false
is_blank (Marked h ∷ cells) = false
