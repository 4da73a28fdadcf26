-- Two rows of hashes whose trees have one root are the same, or collide.
use Rattle.std.proofs.Common.{◌≡◌, ◌⊎◌, inl, inr, ℕ, zero, suc, ◌+◌, ◌-◌, ◌*◌, ◌^◌, ◌<◌, ◌≤◌, List, [], length, take, drop, replicate, get_or}
use Rattle.std.proofs.Common.{ap, sym, ◌∙◌, subst, arith, append-nil}
use Rattle.std.proofs.lemmas.Bool.{cases_lt}
use Rattle.std.proofs.lemmas.List.{length-replicate, get_or_append_left, get_or-append_right, get_or-replicate, take_all}
use Rattle.std.proofs.lemmas.List.FromFn.{get_or-map-range_with_len}
use Rattle.chains.proofs.Cases.{same_or_not, same_parts}
use Rattle.sha2.specs.Sha256.{sha256}
use Rattle.sha2.proofs.Facts256.{length-sha256}
use Rattle.hashtree.specs.Tree.{block, block_count, block_hashes, height, leaves, node, node_over, pad_leaf, tree}
use Rattle.hashtree.proofs.Blocks.{length-block_hashes}
use Rattle.hashtree.proofs.Nodes.{leaf_at, length-leaves, node_over-suc, part_within}
use Rattle.hashtree.proofs.Pairs.{two-pow}
use Rattle.parts.specs.Collisions.{RowsCollide, children}

-- each item of a row is a hash
abbrev pub AreHashes : List (List ℕ) → Type 0
AreHashes xs = (j : ℕ) → j < length xs → length (get_or xs j []) ≡ 32

leaf_of : (xs : List (List ℕ)) (i : ℕ) → i < length xs → node_over xs 0 i ≡ get_or xs i []
leaf_of xs i lt = ap (λ ys. node_over ys 0 i) (sym (append-nil xs)) ∙ leaf_at xs [] i lt

length-node_over : (xs : List (List ℕ)) (d i : ℕ) → AreHashes xs → (i + 1) * 2 ^ d ≤ length xs → length (node_over xs d i) ≡ 32
length-node_over xs zero i all room = let lt : i < length xs = omega (arith, room) in ap length (leaf_of xs i lt) ∙ all i lt
length-node_over xs (suc d) i all room = ap length (node_over-suc xs d i) ∙ length-sha256 (children xs d i)

-- the leaves of a file are hashes
leaves_are_hashes : (f : List ℕ) → AreHashes (leaves f)
leaves_are_hashes f i lt =
    let n : ℕ = block_count (length f) in
    elim (cases_lt i n) [
      | inl there ↦
          ap length (get_or_append_left (block_hashes f n) (replicate (2 ^ height n - n) pad_leaf) [] i (omega (arith, there, length-block_hashes f n))
          ∙ get_or-map-range_with_len (λ j. sha256 (block f j)) 0 n i i [] there (omega arith))
          ∙ length-sha256 (block f i)
      | inr past ↦
          ap length (get_or-append_right (block_hashes f n) (replicate (2 ^ height n - n) pad_leaf) n i [] (length-block_hashes f n) past
          ∙ get_or-replicate (2 ^ height n - n) (i - n) pad_leaf [] (omega (arith, lt, past, length-leaves f)))
          ∙ length-replicate {A = ℕ} 32 0
    ]

-- and so are its nodes
pub length-node : (f : List ℕ) (l i : ℕ) → l ≤ height (block_count (length f)) → i < 2 ^ (height (block_count (length f)) - l) → length (node f l i) ≡ 32
length-node f l i low inside =
    length-node_over (leaves f) l i (leaves_are_hashes f) (omega (arith, part_within (height (block_count (length f))) l i low inside, length-leaves f))

-- the halves of a part
left_room : (d i n : ℕ) → (i + 1) * 2 ^ suc d ≤ n → (2 * i + 1) * 2 ^ d ≤ n
left_room d i n room =
    let w : 2 ^ suc d ≡ 2 ^ d + 2 ^ d = two-pow d in
    let e : (i + 1) * (2 ^ d + 2 ^ d) ≤ n = subst (λ k. (i + 1) * k ≤ n) w room in
    omega (arith, e)

right_room : (d i n : ℕ) → (i + 1) * 2 ^ suc d ≤ n → (2 * i + 1 + 1) * 2 ^ d ≤ n
right_room d i n room =
    let w : 2 ^ suc d ≡ 2 ^ d + 2 ^ d = two-pow d in
    let e : (i + 1) * (2 ^ d + 2 ^ d) ≤ n = subst (λ k. (i + 1) * k ≤ n) w room in
    omega (arith, e)

in_left : (d i j : ℕ) → i * 2 ^ suc d ≤ j → 2 * i * 2 ^ d ≤ j
in_left d i j le =
    let e : i * (2 ^ d + 2 ^ d) ≤ j = subst (λ k. i * k ≤ j) (two-pow d) le in
    omega (arith, e)

in_right : (d i j : ℕ) → j < (i + 1) * 2 ^ suc d → j < (2 * i + 1 + 1) * 2 ^ d
in_right d i j lt =
    let e : j < (i + 1) * (2 ^ d + 2 ^ d) = subst (λ k. j < (i + 1) * k) (two-pow d) lt in
    omega (arith, e)

-- the items of this part are the same
abbrev SameIn : List (List ℕ) → List (List ℕ) → ℕ → ℕ → Type 0
SameIn xs ys d i = (j : ℕ) → i * 2 ^ d ≤ j → j < (i + 1) * 2 ^ d → get_or xs j [] ≡ get_or ys j []

both_halves : (xs ys : List (List ℕ)) (d i : ℕ) → SameIn xs ys d (2 * i) → SameIn xs ys d (2 * i + 1) → SameIn xs ys (suc d) i
both_halves xs ys d i left right j from to = elim (cases_lt j ((2 * i + 1) * 2 ^ d)) [
  | inl before ↦ left j (in_left d i j from) before
  | inr after ↦ right j after (in_right d i j to)
]

-- where two nodes are the same the rows are the same below them, or collide
pub same_below : (xs ys : List (List ℕ)) (d i : ℕ) → AreHashes xs → AreHashes ys → length ys ≡ length xs → (i + 1) * 2 ^ d ≤ length xs
    → node_over xs d i ≡ node_over ys d i → SameIn xs ys d i ⊎ RowsCollide xs ys
same_below xs ys zero i all_x all_y len room same =
    let lt : i < length xs = omega (arith, room) in
    inl (λ j from to.
    let at : j ≡ i = omega (arith, from, to) in
    ap (λ k. get_or xs k []) at ∙ sym (leaf_of xs i lt) ∙ same ∙ leaf_of ys i (omega (arith, lt, len)) ∙ ap (λ k. get_or ys k []) (sym at))
same_below xs ys (suc d) i all_x all_y len room same = elim (same_or_not (children xs d i) (children ys d i)) [
  | inr other ↦ inr (record {
    layer = d;
    index = i;
    inside = room;
    differ = other;
    one_digest = sym (node_over-suc xs d i) ∙ same ∙ node_over-suc ys d i;
  })
  | inl joined ↦
      let l = left_room d i (length xs) room in
      let r = right_room d i (length xs) room in
      let parts = same_parts (node_over xs d (2 * i)) (node_over xs d (2 * i + 1)) (node_over ys d (2 * i)) (node_over ys d (2 * i + 1))
      (length-node_over xs d (2 * i) all_x l ∙ sym (length-node_over ys d (2 * i) all_y (subst (λ n. (2 * i + 1) * 2 ^ d ≤ n) (sym len) l))) joined in
      elim (same_below xs ys d (2 * i) all_x all_y len l parts.0) [
        | inr other ↦ inr other
        | inl left ↦ elim (same_below xs ys d (2 * i + 1) all_x all_y len r parts.1) [
          | inr other ↦ inr other
          | inl right ↦ inl (both_halves xs ys d i left right)
        ]
      ]
]

-- the node over a whole row
whole_row : (d : ℕ) (xs : List (List ℕ)) → length xs ≡ 2 ^ d → node_over xs d 0 ≡ tree d xs
whole_row d xs len =
    let none : 0 * 2 ^ d ≡ 0 = omega arith in
    ap (λ k. tree d (take (2 ^ d) (drop k xs))) none ∙ ap (tree d) (take_all (2 ^ d) xs (omega (arith, len)))

-- trees with one root are over the same rows, or these collide
pub same_rows : (d : ℕ) (xs ys : List (List ℕ)) → length xs ≡ 2 ^ d → length ys ≡ 2 ^ d → AreHashes xs → AreHashes ys → tree d xs ≡ tree d ys
    → ((j : ℕ) → j < 2 ^ d → get_or xs j [] ≡ get_or ys j []) ⊎ RowsCollide xs ys
same_rows d xs ys len_x len_y all_x all_y same =
    elim (same_below xs ys d 0 all_x all_y (len_y ∙ sym len_x) (omega (arith, len_x)) (whole_row d xs len_x ∙ same ∙ sym (whole_row d ys len_y))) [
      | inr other ↦ inr other
      | inl each ↦ inl (λ j lt. each j (omega arith) (omega (arith, lt)))
    ]
