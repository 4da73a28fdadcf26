-- A whole layer of a tree, given without the pads at its end.
use Rattle.std.specs.Prelude.{◌≡◌, ◌≢◌, ℕ, ◌-◌, ◌^◌, ◌<◌, ◌≤◌, List, [], ◌++◌, length, replicate}
use Rattle.wire.specs.declared.message.Ask.{Ask}
use Rattle.node_maps.specs.Places.{tree_height, PartialTree}
use Rattle.partial_tree.specs.declared.refusal.HashRefusal.{HashRefusal}
use Rattle.partial_tree.specs.declared.refusal.HashRefusal.TheVariants.{BadRange, BadCount, Mismatch, NoMemory}
use Rattle.node_maps.specs.Digest.{Hash}
use Rattle.hashtree.specs.Tree.{block_count, first_pad, zero_hash}
use Rattle.partial_tree.specs.Claims.{claims, HasNew, IsAgreed, IsMismatch}

-- the first place of a layer wholly past the file's end
abbrev pub pad_from : ℕ → ℕ → ℕ
pad_from len l = first_pad (block_count len) l

-- the ask for a whole layer
abbrev pub fill_ask : ℕ → ℕ → Ask
fill_ask len l =
    record { root = []; base = l; index = 0; length = 2 ^ (tree_height len - l); proof = 0 }

-- the hashes of a whole layer, the pads supplied
abbrev pub fill_hashes : ℕ → ℕ → List Hash → List Hash
fill_hashes len l hashes =
    hashes ++ replicate (2 ^ (tree_height len - l) - length hashes) (zero_hash l)

-- what follows from a whole layer
abbrev pub fill_claims : ℕ → ℕ → List Hash → PartialTree
fill_claims len l hashes = claims (fill_ask len l) (fill_hashes len l hashes)

-- the layer is one of the tree, its hashes are all there, and what follows agrees with what is
-- known
pub record IsFillAccepted (len : ℕ) (K : PartialTree) (l : ℕ) (hashes : List Hash) : Type 0 where
  pub layer_inside : l ≤ tree_height len
  pub right_count : length hashes ≡ pad_from len l
  pub agrees : IsAgreed K (fill_claims len l hashes)

-- why a whole layer is refused: the first test that fails; or out of memory, if none does and a
-- place is new
abbrev pub FillRefuses : ℕ → PartialTree → ℕ → List Hash → HashRefusal → Type 0
FillRefuses len K l hashes BadRange = tree_height len < l
FillRefuses len K l hashes BadCount = (l ≤ tree_height len) × (length hashes ≢ pad_from len l)
FillRefuses len K l hashes Mismatch =
    (l ≤ tree_height len) × (length hashes ≡ pad_from len l)
    × IsMismatch K (fill_claims len l hashes)
FillRefuses len K l hashes NoMemory = IsFillAccepted len K l hashes
    × HasNew K (fill_claims len l hashes)
FillRefuses len K l hashes r = ⊥
