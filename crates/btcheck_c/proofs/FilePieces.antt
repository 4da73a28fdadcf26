-- The pieces of a file in a row.
use Rattle.std.proofs.Common.{◌≡◌, inl, inr, ℕ, zero, suc, ◌+◌, ◌-◌, ◌*◌, ◌/◌, ◌^◌, ◌<◌, ◌≤◌, min, List, length, drop, slice_range, refl, ap, ◌∙◌, arith}
use Rattle.std.proofs.Math.Nat.{div-mul-le_self}
use Rattle.std.proofs.lemmas.Bool.{cases_lt}
use Rattle.std.proofs.lemmas.Nat.{mul-le, pow_pos}
use Rattle.std.proofs.lemmas.List.{length-drop, length-take, take_all}
use Rattle.hashtree.specs.Tree.{block_count, first_pad, height}
use Rattle.hashtree.specs.Complete.{complete_count}
use Rattle.hashtree.proofs.Heights.{first_pad-place, height_enough, height_least}
use Rattle.opening.proofs.Layering.{whole_layer}
use Rattle.pieces.specs.Pieces.{IsPieceLength, pieces_of}
use Rattle.pieces.proofs.Cutting.{cut_count_is, pieces_cover}
use Rattle.pieces.proofs.Legal.{legal_bounds}
use Rattle.btcheck_c.specs.FileChecks.{row_length}

-- the layer of the pieces is one of the tree of a file that is longer than a piece
pub layer_inside : (p n piece shape layer : ℕ) → p < n → piece ≡ p → shape ≡ n → layer ≡ height (block_count piece)
    → layer ≤ height (block_count shape)
layer_inside p n piece shape layer longer same_piece same_shape is =
    let h = height (block_count shape) in
    let low : height (block_count piece) ≤ h =
    height_least (block_count piece) h (omega (arith, height_enough (block_count shape), longer, same_piece, same_shape)) in
    omega (arith, low, is)

-- bytes that have this many pieces have as many nodes in the layer of the pieces
pub layer_whole : (p n piece shape layer count : ℕ) → IsPieceLength p → piece ≡ p → shape ≡ n → block_count piece ≤ 2 ^ layer
    → ((i : ℕ) → block_count piece ≤ 2 ^ i → layer ≤ i) → count ≡ pieces_of p n → count ≡ first_pad (block_count shape) layer
layer_whole p n piece shape layer count legal same_piece same_shape enough least is =
    whole_layer p legal.0 n piece shape layer count legal.1 legal.3 same_piece same_shape enough least is

-- a file has no piece that begins past its end
last_begins : (p n from to : ℕ) → 0 < p → from < to → to ≤ pieces_of p n → p * (to - 1) < n
last_begins p n from to some order within =
    let low : pieces_of p n * p ≤ n + (p - 1) = div-mul-le_self (n + (p - 1)) p in
    let most : to * p ≤ pieces_of p n * p = mul-le to p (pieces_of p n) p within (omega arith) in
    let end : p * to ≡ p * (to - 1) + p = ap (λ k. p * k) (let a : to ≡ to - 1 + 1 = omega (arith, order) in a) ∙ omega arith in
    omega (arith, low, most, end, some)

-- the pieces' bytes are there, as many as these pieces have
pub record IsRowOf (p n from to : ℕ) : Type 0 where
  pub some : 0 < row_length p n from to
  pub few : row_length p n from to ≤ n
  pub begins : p * from ≤ min (p * to) n
  pub ends : p * to ≤ n + p
  pub count : pieces_of p (row_length p n from to) ≡ to - from

pub row_of : (p n from to : ℕ) → 0 < p → from < to → to ≤ pieces_of p n → IsRowOf p n from to
row_of p n from to positive order within =
    let last : p * (to - 1) < n = last_begins p n from to positive order within in
    let end : p * to ≡ p * (to - 1) + p = ap (λ k. p * k) (let a : to ≡ to - 1 + 1 = omega (arith, order) in a) ∙ omega arith in
    let rows : p * (to - from - 1) + p * from ≡ p * (to - 1) = (let a : p * (to - from - 1) + p * from ≡ p * (to - from - 1 + from) = omega arith in a)
    ∙ ap (λ k. p * k) (let a : to - from - 1 + from ≡ to - 1 = omega (arith, order) in a) in
    let filled : ℕ = min (p * to) n - p * (to - 1) in
    let least : 0 < min (p * to) n - p * (to - 1) = omega (arith, last, end, positive) in
    let most : min (p * to) n - p * (to - 1) ≤ p = omega (arith, end) in
    let all : row_length p n from to ≡ p * (to - from - 1) + (min (p * to) n - p * (to - 1)) = omega (arith, rows, last, end, positive) in
    record {
      some = omega (arith, all, least);
      few = omega arith;
      begins = omega (arith, rows, last, end);
      ends = omega (arith, last, end);
      count = ap (pieces_of p) all ∙ cut_count_is p (to - from - 1) filled least most ∙ omega (arith, order);
    }

-- a file of one piece has no other
pub only_piece : (p n from to : ℕ) → 0 < p → n ≤ p → from < to → to ≤ pieces_of p n → (from ≡ 0) × (to ≡ 1)
only_piece p n from to some short order within =
    let last : p * (to - 1) < n = last_begins p n from to some order within in
    (omega (arith, order, one p (to - 1) (omega (arith, last, short))), omega (arith, order, one p (to - 1) (omega (arith, last, short))))
  where
    one : (p k : ℕ) → p * k < p → k ≡ 0
    one p zero lt = refl
    one p (suc k) lt = absurd (let more : p * suc k ≡ p + p * k = omega arith in omega (arith, lt, more))

-- pieces are no more than bytes and a piece
pub few_pieces : (p n : ℕ) → 0 < p → pieces_of p n ≤ n + p
few_pieces p n some =
    let low : pieces_of p n * p ≤ n + (p - 1) = div-mul-le_self (n + (p - 1)) p in
    let most : pieces_of p n * 1 ≤ pieces_of p n * p = mul-le (pieces_of p n) 1 (pieces_of p n) p (omega arith) some in
    omega (arith, low, most)

pub range_length : (xs : List (List ℕ)) (from to : ℕ) → to ≤ length xs → length (slice_range xs from to) ≡ to - from
range_length xs from to le = omega (arith, le, length-take (to - from) (drop from xs), length-drop from xs)

pub range_whole : (xs : List (List ℕ)) → slice_range xs 0 (length xs) ≡ xs
range_whole xs = take_all (length xs - 0) xs (omega arith)

-- the row has as many hashes as its bytes have nodes
pub hashes_count : (xs hashes : List (List ℕ)) (from to : ℕ) → to ≤ length xs → hashes ≡ slice_range xs from to → length hashes ≡ to - from
hashes_count xs hashes from to le is = ap length is ∙ range_length xs from to le

-- and so it has where the only piece of a file has one hash
pub hashes_row : (p n from to : ℕ) (xs hashes : List (List ℕ)) → 0 < p → from < to → to ≤ pieces_of p n → (p < n → length xs ≡ pieces_of p n)
    → (n ≤ p → length hashes ≡ 1) → (p < n → hashes ≡ slice_range xs from to) → length hashes ≡ to - from
hashes_row p n from to xs hashes some order within listed one many = elim (cases_lt p n) [
  | inl longer ↦ hashes_count xs hashes from to (omega (arith, within, listed longer)) (many longer)
  | inr short ↦ let only = only_piece p n from to some short order within in omega (arith, one short, only.0, only.1)
]

pub hashes_whole : (p n piece shape layer from to : ℕ) (hashes : List (List ℕ)) → IsPieceLength p → from < to → to ≤ pieces_of p n
    → length hashes ≡ to - from → piece ≡ p → shape ≡ row_length p n from to → block_count piece ≤ 2 ^ layer
    → ((i : ℕ) → block_count piece ≤ 2 ^ i → layer ≤ i) → length hashes ≡ first_pad (block_count shape) layer
hashes_whole p n piece shape layer from to hashes legal order within count same_piece same_shape enough least =
    let row = row_of p n from to (omega (arith, (legal_bounds p legal).0)) order within in
    layer_whole p (row_length p n from to) piece shape layer (length hashes) legal same_piece same_shape enough least
    (count ∙ omega (arith, row.count))

-- a file that has pieces has a piece length
pub some_length : (p n : ℕ) → 0 < pieces_of p n → 0 < p
some_length zero n lt = absurd (omega (arith, lt))
some_length (suc p) n lt = omega arith

-- bytes of one node are no more than it covers
pub one_node : (n layer : ℕ) → first_pad (block_count n) layer ≡ 1 → n ≤ 16384 * 2 ^ layer
one_node n layer is = elim (cases_lt (1 * 2 ^ layer) (block_count n)) [
  | inl more ↦ absurd (omega (arith, (first_pad-place (block_count n) layer 1).1 more, is))
  | inr le ↦ omega (arith, le)
]

-- and their node is not complete, since no byte comes after it
pub not_complete : (n layer k : ℕ) → n ≤ 16384 * 2 ^ layer → k < complete_count layer n → ⊥
not_complete n layer k few lt =
    let d : ℕ = 2 ^ layer in
    let m : ℕ = (n - 1) / 16384 in
    let some : (k + 1) * 2 ^ layer ≤ (n - 1) / 16384 / 2 ^ layer * 2 ^ layer = mul-le (k + 1) d (m / d) d (omega (arith, lt)) (omega arith) in
    let next : (k + 1) * 2 ^ layer ≡ k * 2 ^ layer + 2 ^ layer = omega arith in
    omega (arith, some, div-mul-le_self m d, next, few, pow_pos layer)

-- all pieces of a file, and its only one, have all its bytes
pub whole_file : (p n : ℕ) → 0 < p → row_length p n 0 (pieces_of p n) ≡ n
whole_file p n some = let all : n ≤ pieces_of p n * p = pieces_cover p n some in omega (arith, all)

pub one_whole : (p n : ℕ) → n ≤ p → row_length p n 0 1 ≡ n
one_whole p n short = omega (arith, short)
