-- A tree that grows from its leaves, the first one first: BEP 52, "pieces root".
use Rattle.std.specs.Prelude.{◌≡◌, ◌≢◌, ◌⊎◌, ℕ, ◌+◌, ◌*◌, ◌<◌, ◌≤◌, List, [], Option, Some, None, slice_index_or}
use Rattle.std.specs.FinMap.{len}
use Rattle.node_maps.specs.Digest.{Hash}
use Rattle.node_maps.specs.Known.{Known, look}
use Rattle.node_maps.specs.Places.{PartialTree, IsTreePlace}
use Rattle.node_maps.specs.Runs.{AreKnown, hashes_from}
use Rattle.partial_tree.specs.Claims.{AreHashes, join_both}
use Rattle.partial_tree.specs.Fill.{fill_claims}

-- what contracts see of it: the length of the tree's files, and the leaves that it was given
pub record GrownTree : Type 0 where
  pub length : ℕ
  pub leaves : List Hash

-- a growing tree by its parts
abbrev pub grown : ℕ → List Hash → GrownTree
grown length leaves = record { length = length; leaves = leaves }

-- the first leaves, this many
abbrev pub first_leaves : Known → ℕ → List Hash
first_leaves K count = hashes_from (look K 0) 0 count

-- the first leaves are known, this many, and nothing else
pub record IsGrowing (count : ℕ) (K : Known) : Type 0 where
  pub leaves_known : AreKnown (look K 0) 0 count
  pub hashes : AreHashes (first_leaves K count)
  pub none_else : (l i : ℕ) → (l ≢ 0) ⊎ (count ≤ i) → look K l i ≡ None
  pub counted : len K ≡ count

-- what is known is what follows from the leaves, this many, and the pads after them
pub record FollowsFromLeaves (files count : ℕ) (K : Known) : Type 0 where
  pub claimed : (l i : ℕ) → look K l i ≡ fill_claims files 0 (first_leaves K count) l i
  pub leaves_known : AreKnown (look K 0) 0 count
  pub hashes : AreHashes (first_leaves K count)

-- the places from one to another of a layer got what f says, and were not known; the rest stays
pub record AddsRow (old : Known) (layer from to : ℕ) (f : ℕ → Option Hash) (new : Known)
    : Type 0 where
  pub row : (i : ℕ) → from ≤ i → i < to → look new layer i ≡ f i
  pub rest : (l i : ℕ) → (l ≢ layer) ⊎ ((i < from) ⊎ (to ≤ i)) → look new l i ≡ look old l i
  pub gained : len new + from ≡ len old + to

-- the join of each two siblings of a layer
abbrev pub parents_of : Known → ℕ → ℕ → Option Hash
parents_of K layer i = join_both (look K layer (2 * i)) (look K layer (2 * i + 1))

-- f has these hashes at eight places, from one on
abbrev pub HasRow : (ℕ → Option Hash) → ℕ → List Hash → Type 0
HasRow f from hashes = (j : ℕ) → j < 8 → f (from + j) ≡ Some (slice_index_or hashes j [])

-- J and K have one value at a place, if both have one
abbrev pub AgreeAt : PartialTree → PartialTree → ℕ → ℕ → Type 0
AgreeAt J K l i = (u v : Hash) → J l i ≡ Some u → K l i ≡ Some v → u ≡ v

-- the same at the first places of a layer, this many
abbrev pub AgreeInRow : PartialTree → PartialTree → ℕ → ℕ → Type 0
AgreeInRow J K layer count = (i : ℕ) → i < count → AgreeAt J K layer i

-- the same at all places of a tree of height h
abbrev pub AgreeInTree : PartialTree → PartialTree → ℕ → Type 0
AgreeInTree J K h = (l i : ℕ) → IsTreePlace h l i → AgreeAt J K l i
