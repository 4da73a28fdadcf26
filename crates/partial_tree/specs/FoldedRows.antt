-- Rows of places under the node over a base range, whose hashes are computed together.
use Rattle.std.specs.Prelude.{◌≡◌, ℕ, ◌+◌, ◌*◌, ◌%◌, ◌^◌, ◌<◌, ◌≤◌, List, [], None, Some, slice_index_or}
use Rattle.node_maps.specs.Digest.{Hash}
use Rattle.node_maps.specs.Places.{PartialTree, IsKnown}
use Rattle.partial_tree.specs.declared.message.evidence.Evidence.{Evidence}
use Rattle.partial_tree.specs.declared.message.row.HashRow.{HashRow}
use Rattle.partial_tree.specs.Claims.{sibling}
use Rattle.partial_tree.specs.Evidence.{IsClaimedPlace, IsInside, claimed_by, given_by, node_over_base}

-- the row lies in the base range or above it, under a node that is claimed, and not given if it
-- stands above the base range
pub record IsClaimedRow (e : Evidence) (row : HashRow) : Type 0 where
  pub at : IsClaimedPlace e (row.layer + row.depth) row.node
  pub not_given : e.base < row.layer + row.depth
      → given_by e (row.layer + row.depth) row.node ≡ None
  pub from_base : e.base ≤ row.layer
  pub to_cover : row.layer + row.depth ≤ e.base + e.span
  pub few : row.depth ≤ 3

-- the number of a place of the row
abbrev pub place_in_row : HashRow → ℕ → ℕ
place_in_row row j = row.node * 2 ^ row.depth + j

-- C has each of the hashes at its place of the row
abbrev pub AreClaimedIn : PartialTree → HashRow → List Hash → Type 0
AreClaimedIn C row hashes = (j : ℕ) → j < 2 ^ row.depth
    → C row.layer (place_in_row row j) ≡ Some (slice_index_or hashes j [])

-- on a layer from the cover up, the hash is what is claimed for the node over the base range, and
-- an uncle stands beside it
pub record IsUnderUncle (e : Evidence) (layer : ℕ) (hash : Hash) : Type 0 where
  pub inside : IsInside e
  pub from_cover : e.base + e.span ≤ layer
  pub low : layer < 32
  pub aligned : e.index % 2 ^ e.span ≡ 0
  pub value : claimed_by e layer (node_over_base e layer) ≡ Some hash
  pub uncle : IsKnown (given_by e) layer (sibling (node_over_base e layer))
