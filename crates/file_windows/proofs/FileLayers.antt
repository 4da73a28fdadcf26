-- The layers over the leaves of a file.
use Rattle.std.proofs.Common.{◌≡◌, ◌∙◌, ℕ, ◌+◌, ◌-◌, ◌^◌, ◌<◌, ◌≤◌, ◌++◌, List, [], length, map, replicate, get_or, refl, sym, ap, ap₂, arith}
use Rattle.std.specs.List.{range_with_len}
use Rattle.std.specs.Global.{Vec}
use Rattle.std.proofs.lemmas.List.{ext_get_or, get_or-map, length-map}
use Rattle.std.proofs.lemmas.List.FromFn.{get_or-map-range_with_len, length-map-range_with_len}
use Rattle.hashtree.proofs.Comparing.{length-layer_of}
use Rattle.hashtree.proofs.Leading.{length-layer_count}
use Rattle.hashtree.proofs.Nodes.{leaves_are_digests}
use Rattle.hashtree.specs.Tree.{block, block_count, block_hashes, filled, first_pad, height, layer_count, layer_of, leaves, level_over, levels_over, node}
use Rattle.hashtree.specs.Tree.{node_over, pad_leaf, tree, zero_hash}
use Rattle.sha2.specs.Sha256.{sha256}

-- the layer of the leaves has the digests of the blocks
digests : (file : List ℕ) → layer_of file 0 ≡ block_hashes file (block_count (length file))
digests file =
    let n : ℕ = block_count (length file) in
    let count : layer_count n 0 ≡ n =
    sym (length-layer_count file 0) ∙ length-layer_of file (length file) 0 refl (omega arith) ∙ (let e : first_pad n 0 ≡ n = omega arith in e) in
    ap (λ k. map (node file 0) (range_with_len 0 k)) count
    ∙ ext_get_or [] (map (node file 0) (range_with_len 0 n)) (block_hashes file n)
    (length-map-range_with_len (node file 0) 0 n ∙ sym (length-map-range_with_len (λ i. sha256 (block file i)) 0 n))
    (λ i lt.
    let below : i < n = omega (arith, lt, length-map-range_with_len (node file 0) 0 n) in
    get_or-map-range_with_len (node file 0) 0 n i i [] below (omega arith) ∙ leaves_are_digests file i below
    ∙ sym (get_or-map-range_with_len (λ j. sha256 (block file j)) 0 n i i [] below (omega arith)))

-- filled up, it is the row of all leaves
row_of_leaves : (file : List ℕ) → filled (height (block_count (length file))) 0 (layer_of file 0) ≡ leaves file
unfolding tree
row_of_leaves file =
    let n : ℕ = block_count (length file) in
    let h : ℕ = height n in
    let size : length (layer_of file 0) ≡ n = length-layer_of file (length file) 0 refl (omega arith) ∙ (let e : first_pad n 0 ≡ n = omega arith in e) in
    ap₂ (λ xs k. xs ++ replicate k (zero_hash 0)) (digests file) (ap₂ (λ a b. 2 ^ a - b) (let e : h - 0 ≡ h = omega arith in e) size)

-- a layer of the tree over the leaves is that of the file's tree
pub layer_above : (file : List ℕ) (layer : ℕ) → layer ≤ height (block_count (length file))
    → level_over (block_count (length file)) 0 (layer_of file 0) layer ≡ layer_of file layer
layer_above file layer low =
    let n : ℕ = block_count (length file) in
    let count : first_pad n layer ≡ layer_count n layer = sym (length-layer_of file (length file) layer refl low) ∙ length-layer_count file layer in
    ap (λ row. map (λ i. node_over row (layer - 0) i) (range_with_len 0 (first_pad n layer))) (row_of_leaves file)
    ∙ ap (λ k. map (λ i. node_over (leaves file) k i) (range_with_len 0 (first_pad n layer))) (let e : layer - 0 ≡ layer = omega arith in e)
    ∙ ap (λ k. map (node file layer) (range_with_len 0 k)) count

pub length-levels_over : (n : ℕ) (xs : List (List ℕ)) → length (levels_over n 0 xs) ≡ height n + 1
length-levels_over n xs = length-map-range_with_len (level_over n 0 xs) 0 (height n + 1 - 0) ∙ omega arith

-- the layer that is chosen of all that are over the leaves
pub one_of_levels : (file : List ℕ) (size : ℕ) (levels : List (Vec (List ℕ))) (layer : ℕ) (found : Vec (List ℕ)) → length file ≡ size
    → layer ≤ height (block_count size) → map (λ level. level.items) levels ≡ levels_over (block_count size) 0 (layer_of file 0)
    → found ≡ get_or levels layer found → found.items ≡ layer_of file layer
one_of_levels file size levels layer found is low all at =
    let n : ℕ = block_count size in
    let xs : List (List ℕ) = layer_of file 0 in
    let count : length levels ≡ height n + 1 = sym (length-map levels (λ (v : Vec (List ℕ)). v.items)) ∙ ap length all ∙ length-levels_over n xs in
    ap (λ (v : Vec (List ℕ)). v.items) at
    ∙ sym (get_or-map (λ (v : Vec (List ℕ)). v.items) levels layer found [] (omega (arith, count, low)))
    ∙ ap (λ ys. get_or ys layer []) all
    ∙ get_or-map-range_with_len (level_over n 0 xs) 0 (height n + 1 - 0) layer layer [] (omega (arith, low)) (omega arith)
    ∙ ap (λ k. level_over (block_count k) 0 xs layer) (sym is)
    ∙ layer_above file layer (rw is low)
