-- Runs of hashes that stand side by side on one layer.
use Rattle.std.specs.Prelude.{◌≡◌, ℕ, ◌+◌, ◌<◌, List, map, Option, Some}
use Rattle.std.specs.Option.{unwrap_or}
use Rattle.std.specs.List.{range_with_len}
use Rattle.hashtree.specs.Tree.{pad_leaf}
use Rattle.node_maps.specs.Digest.{Hash}

-- what is known of one layer, by the numbers of its places
abbrev pub LayerHashes : Type 0
LayerHashes = ℕ → Option Hash

-- the hashes of `count` places are known, from one on
abbrev pub AreKnown : LayerHashes → ℕ → ℕ → Type 0
AreKnown f from count = (j : ℕ) → j < count → (v : Hash) × (f (from + j) ≡ Some v)

-- the hashes of `count` places, from one on; the pad leaf at one that is not known
abbrev pub hashes_from : LayerHashes → ℕ → ℕ → List Hash
hashes_from f from count =
    map (λ j. unwrap_or (f (from + j)) pad_leaf) (range_with_len 0 count)
