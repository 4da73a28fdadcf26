-- Pads as they are put, layer by layer.
use Rattle.std.specs.Prelude.{◌≡◌, ◌⊎◌, ℕ, ◌+◌, ◌<◌, ◌≤◌, Some}
use Rattle.std.specs.Option.{option_or}
use Rattle.node_maps.specs.Digest.{Hash}
use Rattle.node_maps.specs.Places.{PartialTree}
use Rattle.partial_tree.specs.Claims.{joined}
use Rattle.partial_tree.specs.EndPads.{end_pads}

-- `count` places of a layer have this hash, from one on, if they had none; no other place changed
pub record IsRowPut (layer first count : ℕ) (hash : Hash) (before after : PartialTree)
    : Type 0 where
  pub inside : (i : ℕ) → first ≤ i → i < first + count
      → after layer i ≡ option_or (before layer i) (Some hash)
  pub elsewhere : (l i : ℕ) → (l ≡ layer → first ≤ i → i < first + count → ⊥)
      → after l i ≡ before l i

-- the pads of the layers below `top` are joined to what was known; on other layers nothing changed
pub record AreLayersPut (len top : ℕ) (before after : PartialTree) : Type 0 where
  pub below : (l i : ℕ) → l < top → after l i ≡ joined before (end_pads len) l i
  pub elsewhere : (l i : ℕ) → top ≤ l → after l i ≡ before l i

-- the pads are joined to what was known
abbrev pub ArePadsPut : ℕ → PartialTree → PartialTree → Type 0
ArePadsPut len before after = (l i : ℕ) → after l i ≡ joined before (end_pads len) l i
