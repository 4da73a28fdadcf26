-- The node over a piece, one layer further up than its tree needs.
use Rattle.std.proofs.Common.{◌≡◌, ℕ, suc, ◌+◌, ◌-◌, ◌^◌, ◌≤◌, List, ◌++◌, length, take, drop, replicate, ap, sym, ◌∙◌, append_assoc, arith}
use Rattle.std.proofs.lemmas.List.{drop-append-le, drop-replicate, drop_all, length-append, length-replicate, take-append-drop, take-append-le}
use Rattle.std.proofs.lemmas.List.{take-replicate, take_all}
use Rattle.sha2.specs.Sha256.{sha256}
use Rattle.hashtree.specs.Pieces.{padded_row, piece_node}
use Rattle.hashtree.specs.Tree.{block_count, block_hashes, pad_leaf, tree, zero_hash}
use Rattle.hashtree.proofs.Blocks.{length-block_hashes}
use Rattle.hashtree.proofs.Pairs.{two-pow}

-- pads are the rest of this half, and the other half
halves : (m : ℕ) (xs : List (List ℕ)) → length xs ≤ 2 ^ m → padded_row (suc m) xs ≡ padded_row m xs ++ replicate (2 ^ m) pad_leaf
halves m xs few =
    let w : ℕ = 2 ^ m in
    let n : ℕ = length xs in
    let all : ℕ = 2 ^ suc m - n in
    let near : List (List ℕ) = replicate (w - n) pad_leaf in
    let two : 2 ^ suc m ≡ w + w = two-pow m in
    let front : take (w - n) (replicate all pad_leaf) ≡ near = take-replicate (w - n) all pad_leaf (omega (arith, two, few)) in
    let far : all - (w - n) ≡ w = omega (arith, two, few) in
    let back : drop (w - n) (replicate all pad_leaf) ≡ replicate w pad_leaf = drop-replicate (w - n) all pad_leaf ∙ ap (λ k. replicate k pad_leaf) far in
    let cut : replicate all pad_leaf ≡ near ++ replicate w pad_leaf =
    sym (take-append-drop (w - n) (replicate all pad_leaf))
    ∙ ap (λ l. l ++ drop (w - n) (replicate all pad_leaf)) front ∙ ap (λ l. near ++ l) back in
    ap (λ l. xs ++ l) cut ∙ sym (append_assoc xs near (replicate w pad_leaf))

pub piece_node_up : (m : ℕ) (piece : List ℕ) → block_count (length piece) ≤ 2 ^ m → piece_node (suc m) piece ≡ sha256 (piece_node m piece ++ zero_hash m)
unfolding tree
piece_node_up m piece few =
    let xs : List (List ℕ) = block_hashes piece (block_count (length piece)) in
    let w : ℕ = 2 ^ m in
    let near : List (List ℕ) = padded_row m xs in
    let far : List (List ℕ) = replicate w pad_leaf in
    let fits : length xs ≤ w = omega (arith, length-block_hashes piece (block_count (length piece)), few) in
    let len : length near ≡ w = omega (arith, fits, length-append xs (replicate (w - length xs) pad_leaf), length-replicate (w - length xs) pad_leaf) in
    let left : take w (near ++ far) ≡ near = take-append-le w near far (omega (arith, len)) ∙ take_all w near (omega (arith, len)) in
    let right : drop w (near ++ far) ≡ far = drop-append-le w near far (omega (arith, len)) ∙ ap (λ l. l ++ far) (drop_all w near (omega (arith, len))) in
    ap (tree (suc m)) (halves m xs fits)
    ∙ ap (λ l. sha256 (tree m l ++ tree m (drop w (near ++ far)))) left
    ∙ ap (λ l. sha256 (tree m near ++ tree m l)) right
