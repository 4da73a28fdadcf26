-- The blocks of several files that stand in a buffer.
use Rattle.std.specs.Prelude.{◌≡◌, ℕ, ◌+◌, ◌-◌, ◌*◌, ◌<◌, ◌≤◌, min, List, slice_index}
use Rattle.hashtree.specs.Tree.{block_count}
pub use Rattle.lanes.specs.Lanes.{bytes_at}
use Rattle.file_windows.specs.Window.{IsLeafOfBlock}
use Rattle.file_windows.specs.declared.blocks.files.Window.{Window}

-- how many blocks there are
abbrev pub block_total : Window → ℕ
block_total w = w.count

-- block j of a file of this size at this byte of the buffer stands there
pub record IsBlockAt (w : Window) (first start size j : ℕ) : Type 0 where
  pub start_is : slice_index w.starts (first + j) ≡ start + 16384 * j
  pub size_is : slice_index w.sizes (first + j) ≡ min 16384 (size - 16384 * j)

-- a file of this size at this byte of the buffer has the blocks from this one on
pub record HasFile (w : Window) (first start size : ℕ) : Type 0 where
  pub within : first + block_count size ≤ w.count
  pub blocks : (j : ℕ) → j < block_count size → IsBlockAt w first start size j

-- all blocks stand in a buffer of this size
abbrev pub IsWithin : Window → ℕ → Type 0
IsWithin w bytes = (b : ℕ) → b < w.count
    → slice_index w.starts b + slice_index w.sizes b ≤ bytes

-- the leaf of each block is the digest of its bytes in this buffer
abbrev pub IsHashed : Window → List ℕ → Type 0
IsHashed w buffer = (b : ℕ) → b < w.count → IsLeafOfBlock buffer w.starts w.sizes w.leaves b
