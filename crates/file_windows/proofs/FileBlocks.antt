-- The blocks of a file that stands in a buffer.
use Rattle.std.proofs.Common.{◌≡◌, ◌∙◌, ℕ, ◌+◌, ◌-◌, ◌*◌, ◌<◌, ◌≤◌, min, List, [], length, take, drop, get_or, sym, ap, ap₂, arith, take-take, inl, inr}
use Rattle.std.specs.Prelude.{slice_index, slice_index_or}
use Rattle.std.proofs.lemmas.List.{drop-drop, drop-take, ext_get_or, get_or-drop, get_or-take, length-drop, length-take, take_all}
use Rattle.std.proofs.lemmas.List.FromFn.{get_or-map-range_with_len, length-map-range_with_len}
use Rattle.std.proofs.lemmas.Bool.{cases_lt}
use Rattle.hashtree.proofs.Nodes.{leaves_are_digests}
use Rattle.hashtree.proofs.Comparing.{length-layer_of}
use Rattle.sha2.specs.Sha256.{sha256}
use Rattle.hashtree.specs.Tree.{block, block_count, first_pad, layer_count, layer_of, node}
use Rattle.lanes.specs.Lanes.{bytes_at}
use Rattle.file_windows.specs.Files.{HasFile, IsBlockAt, IsHashed}
use Rattle.file_windows.specs.declared.blocks.files.Window.{Window}

-- a block of a file that stands in a buffer stands there too
block_there : (buffer : List ℕ) (start size j : ℕ) → 16384 * j ≤ size
    → block (bytes_at buffer start size) j ≡ bytes_at buffer (start + 16384 * j) (min 16384 (size - 16384 * j))
block_there buffer start size j le =
    let n : ℕ = 16384 * j in
    let m : ℕ = size - n in
    let split : n + m ≡ size = omega (arith, le) in
    let own : List ℕ = drop (start + n) buffer in
    let rest : drop n (take size (drop start buffer)) ≡ take m own =
    ap (λ k. drop n (take k (drop start buffer))) (sym split) ∙ drop-take n m (drop start buffer) ∙ ap (take m) (drop-drop n start buffer) in
    ap (take 16384) rest ∙ elim (cases_lt m 16384) [
      | inr whole ↦ take-take 16384 m own whole ∙ ap (λ k. take k own) (let e : 16384 ≡ min 16384 m = omega (arith, whole) in e)
      | inl short ↦ take_all 16384 (take m own) (omega (arith, length-take m own, short)) ∙ ap (λ k. take k own)
          (let e : m ≡ min 16384 m = omega (arith, short) in e)
    ]

-- the leaf of a block in the window is that of the file
leaf_there : (w : Window) (buffer : List ℕ) (first start size j : ℕ) → HasFile w first start size → IsHashed w buffer → j < block_count size
    → slice_index_or w.leaves (first + j) [] ≡ sha256 (block (bytes_at buffer start size) j)
leaf_there w buffer first start size j has hashed lt =
    let b = has.blocks j lt in
    hashed (first + j) (omega (arith, has.within, lt))
    ∙ ap₂ (λ from many. sha256 (bytes_at buffer from many)) b.start_is b.size_is
    ∙ ap sha256 (sym (block_there buffer start size j (omega (arith, lt))))

-- the leaves of a file are those of its blocks in the window
pub leaves_there : (w : Window) (buffer : List ℕ) (first start size count : ℕ) → HasFile w first start size → IsHashed w buffer → start + size ≤ length buffer
    → count ≡ block_count size → length (take count (drop first w.leaves)) ≡ count → take count (drop first w.leaves) ≡ layer_of
    (bytes_at buffer start size) 0
leaves_there w buffer first start size count has hashed inside is long =
    let file : List ℕ = bytes_at buffer start size in
    let size_is : length file ≡ size = length-take size (drop start buffer) ∙ omega (arith, inside, length-drop start buffer) in
    let blocks : block_count (length file) ≡ count = ap block_count size_is ∙ sym is in
    let whole : length (layer_of file 0) ≡ count = length-layer_of file size 0 size_is (omega arith) ∙ one_pad (block_count size) ∙ sym is in
    same_leaves (take count (drop first w.leaves)) (layer_of file 0) (long ∙ sym whole) (λ k lt.
    let below : k < count = omega (arith, lt, long) in
    get_or-take count (drop first w.leaves) k [] below ∙ get_or-drop first w.leaves k []
    ∙ leaf_there w buffer first start size k has hashed (omega (arith, below, is))
    ∙ sym (get_or-map-range_with_len (node file 0) 0 (layer_count (block_count (length file)) 0) k k []
    (omega (arith, below, whole, length-map-range_with_len (node file 0) 0 (layer_count (block_count (length file)) 0))) (omega arith)
    ∙ leaves_are_digests file k (omega (arith, below, blocks))))
  where
    one_pad : (n : ℕ) → first_pad n 0 ≡ n
    one_pad n = omega arith

    same_leaves : (xs ys : List (List ℕ)) → length xs ≡ length ys → ((k : ℕ) → k < length xs → get_or xs k [] ≡ get_or ys k []) → xs ≡ ys
    same_leaves xs ys long same = ext_get_or [] xs ys long same

-- a block of a file stands within it
pub block_inside : (w : Window) (first start size j bytes : ℕ) → 16384 * j ≤ size → start + size ≤ bytes → IsBlockAt w first start size j
    → slice_index w.starts (first + j) + slice_index w.sizes (first + j) ≤ bytes
block_inside w first start size j bytes le fits block = omega (arith, le, fits, block.start_is, block.size_is)
