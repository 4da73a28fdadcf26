-- The laws of the tree that follow from the definition by halves.
use Rattle.std.proofs.Common.{◌≡◌, ℕ, zero, suc, ◌+◌, ◌-◌, ◌*◌, ◌^◌, ◌<◌, ◌≤◌, List, [], ◌++◌, map, length, get_or, take, drop, replicate, sym, ap, ap₂, ◌∙◌}
use Rattle.std.proofs.Common.{subst, arith, take-take, drop-drop}
use Rattle.std.specs.List.{range_with_len}
use Rattle.std.proofs.lemmas.List.{drop-take, get_or-replicate, get_or-append_right, get_or_append_left, get_or-take, get_or-drop}
use Rattle.std.proofs.lemmas.List.FromFn.{length-map-range_with_len, get_or-map-range_with_len}
use Rattle.sha2.specs.Sha256.{sha256}
use Rattle.node_maps.specs.Digest.{Hash, join}
use Rattle.hashtree.specs.Tree.{pad_leaf, block, block_count, leaves, tree, zero_hash, node}
use Rattle.hashtree.proofs.Zeros.{zero_hash-zero, zero_hash-suc}
use Rattle.hashtree.proofs.Pairs.{two-pow}
use Rattle.node_maps.specs.Places.{IsTreePlace, tree_height}
use Rattle.node_maps.proofs.Places.{place_left, place_right}

-- a node is the join of its two children
pub node-suc : (f : List ℕ) (l i : ℕ) → node f (suc l) i ≡ join (node f l (2 * i)) (node f l (2 * i + 1))
unfolding tree
node-suc f l i =
    let e : 2 ^ suc l ≡ 2 ^ l + 2 ^ l = two-pow l in
    let s : i * 2 ^ suc l ≡ 2 * i * 2 ^ l = ap (λ k. i * k) e ∙ omega arith in
    ap₂ (λ a b. join (tree l a) (tree l b))
    (take-take (2 ^ l) (2 ^ suc l) (drop (i * 2 ^ suc l) (leaves f)) (omega arith)
    ∙ ap (λ k. take (2 ^ l) (drop k (leaves f))) s)
    (ap (λ k. drop (2 ^ l) (take k (drop (i * 2 ^ suc l) (leaves f)))) e
    ∙ drop-take (2 ^ l) (2 ^ l) (drop (i * 2 ^ suc l) (leaves f))
    ∙ ap (take (2 ^ l)) (drop-drop (2 ^ l) (i * 2 ^ suc l) (leaves f) ∙ ap (λ k. drop k (leaves f)) (ap (λ k. k + 2 ^ l) s ∙ omega arith)))

-- a leaf of the file
pub node-leaf : (f : List ℕ) (i : ℕ) → i < block_count (length f) → node f 0 i ≡ sha256 (block f i)
unfolding tree
node-leaf f i h =
    let n : ℕ = block_count (length f) in
    let w : List Hash = map (λ k. sha256 (block f k)) (range_with_len 0 n) in
    let len : length w ≡ n = length-map-range_with_len (λ k. sha256 (block f k)) 0 n in
    let p : List Hash = replicate (2 ^ tree_height (length f) - n) pad_leaf in
    get_or-take (2 ^ 0) (drop (i * 2 ^ 0) (w ++ p)) 0 [] (omega arith)
    ∙ get_or-drop (i * 2 ^ 0) (w ++ p) 0 []
    ∙ ap (λ k. get_or (w ++ p) k []) (omega arith)
    ∙ get_or_append_left w p [] i (subst (λ k. i < k) (sym len) h)
    ∙ get_or-map-range_with_len (λ k. sha256 (block f k)) 0 n i i [] h (omega arith)

-- a leaf past the file's end is a pad leaf
pub node-pad : (f : List ℕ) (i : ℕ) → i < 2 ^ tree_height (length f) → block_count (length f) ≤ i → node f 0 i ≡ pad_leaf
unfolding tree
node-pad f i in' h =
    let n : ℕ = block_count (length f) in
    let w : List Hash = map (λ k. sha256 (block f k)) (range_with_len 0 n) in
    let len : length w ≡ n = length-map-range_with_len (λ k. sha256 (block f k)) 0 n in
    let p : List Hash = replicate (2 ^ tree_height (length f) - n) pad_leaf in
    get_or-take (2 ^ 0) (drop (i * 2 ^ 0) (w ++ p)) 0 [] (omega arith)
    ∙ get_or-drop (i * 2 ^ 0) (w ++ p) 0 []
    ∙ ap (λ k. get_or (w ++ p) k []) (omega arith)
    ∙ get_or-append_right w p n i [] len h
    ∙ get_or-replicate (2 ^ tree_height (length f) - n) (i - n) pad_leaf [] (omega arith)

-- a node wholly past the file's end is the hash over pads
pub node-past : (f : List ℕ) (l i : ℕ) → IsTreePlace (tree_height (length f)) l i → block_count (length f) ≤ i * 2 ^ l → node f l i ≡ zero_hash l
node-past f zero i at h =
    let e : tree_height (length f) - 0 ≡ tree_height (length f) = omega arith in
    node-pad f i (subst (λ k. i < 2 ^ k) e at.1) (omega arith) ∙ sym zero_hash-zero
node-past f (suc l) i at h =
    let e : 2 ^ suc l ≡ 2 ^ l + 2 ^ l = two-pow l in
    let s : i * 2 ^ suc l ≡ 2 * i * 2 ^ l = ap (λ k. i * k) e ∙ omega arith in
    node-suc f l i
    ∙ ap₂ join (node-past f l (2 * i) (place_left _ l i at.0 at) (omega arith)) (node-past f l (2 * i + 1) (place_right _ l i at.0 at) (omega arith))
    ∙ sym (zero_hash-suc l)
