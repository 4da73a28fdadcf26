-- The places of a hash tree, and what is known there (BEP 52, "pieces root").
use Rattle.std.specs.Prelude.{◌≡◌, ℕ, ◌-◌, ◌^◌, ◌<◌, ◌≤◌, Option, Some}
use Rattle.hashtree.specs.Tree.{block_count, height}
use Rattle.node_maps.specs.Digest.{Hash}

-- the height of the tree of a file of this length
abbrev pub tree_height : ℕ → ℕ
tree_height len = height (block_count len)

-- how many layers a tree has at most: its height is at most 32
abbrev pub most_layers : ℕ
most_layers = 33

-- what is known at the place (layer, index)
abbrev pub PartialTree : Type 0
PartialTree = ℕ → ℕ → Option Hash

-- (l, i) is a place of a tree of height h: layer 0 has the 2 ^ h leaves, and (h, 0) is the root
abbrev pub IsTreePlace : ℕ → ℕ → ℕ → Type 0
IsTreePlace h l i = (l ≤ h) × (i < 2 ^ (h - l))

-- a value is known at the place
abbrev pub IsKnown : PartialTree → ℕ → ℕ → Type 0
IsKnown K l i = (v : Hash) × (K l i ≡ Some v)
