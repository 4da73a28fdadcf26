-- The bits of bytes that end with a piece, or within one.
use Rattle.std.proofs.Common.{◌≡◌, inl, inr, ℕ, ◌+◌, ◌-◌, ◌*◌, ◌/◌, ◌%◌, ◌^◌, ◌<◌, ◌≤◌, List, [], length, get_or}
use Rattle.std.proofs.Common.{ap, sym, ◌∙◌, arith}
use Rattle.std.proofs.Math.Nat.{div-add-mod', div-mul-le_self, mul-mod_left}
use Rattle.std.proofs.Math.Pow.{pow_mono}
use Rattle.std.proofs.lemmas.Bool.{cases_lt}
use Rattle.std.proofs.lemmas.Nat.{mod_below, mul-le, pow_pos}
use Rattle.std.proofs.lemmas.List.FromFn.{get_or-map-range_with_len}
use Rattle.hashtree.specs.Tree.{block_count, first_pad, height, node}
use Rattle.hashtree.specs.Bits.{AreMarked}
use Rattle.hashtree.specs.Complete.{complete_count, complete_nodes}
use Rattle.hashtree.specs.Pieces.{piece_at, piece_node, piece_nodes}
use Rattle.hashtree.proofs.Complete.{length-complete_nodes}
use Rattle.hashtree.proofs.Heights.{first_pad-fits, first_pad-place, height_enough}
use Rattle.hashtree.proofs.Marking.{length-piece_nodes}
use Rattle.hashtree.proofs.PieceNodes.{node_is_over_piece}
use Rattle.pieces.specs.Marks.{AreMarkedWhole}

-- if the bytes are whole pieces, those that there are are whole
whole_there : (len layer k : ℕ) → len % (16384 * 2 ^ layer) ≡ 0 → k < first_pad (block_count len) layer → 16384 * ((k + 1) * 2 ^ layer) ≤ len
whole_there len layer k whole lt =
    let p : ℕ = 16384 * 2 ^ layer in
    let q : ℕ = len / p in
    let first : k * 2 ^ layer < block_count len = (first_pad-place (block_count len) layer k).0 lt in
    let all : len / (16384 * 2 ^ layer) * (16384 * 2 ^ layer) + len % (16384 * 2 ^ layer) ≡ len = div-add-mod' len (16384 * 2 ^ layer) in
    let begins : k * (16384 * 2 ^ layer) < len = omega (arith, first) in
    elim (cases_lt k (len / (16384 * 2 ^ layer))) [
      | inl less ↦
          let m : (k + 1) * (16384 * 2 ^ layer) ≤ len / (16384 * 2 ^ layer) * (16384 * 2 ^ layer) =
          mul-le (k + 1) p q p (omega (arith, less)) (omega arith) in
          omega (arith, m, all, whole)
      | inr more ↦
          let m : len / (16384 * 2 ^ layer) * (16384 * 2 ^ layer) ≤ k * (16384 * 2 ^ layer) = mul-le q p k p more (omega arith) in
          absurd (omega (arith, m, all, whole, begins))
    ]

-- a whole piece is there
there_whole : (len layer k : ℕ) → 16384 * ((k + 1) * 2 ^ layer) ≤ len → k < first_pad (block_count len) layer
there_whole len layer k le =
    let pos : 0 < 2 ^ layer = pow_pos layer in
    let next : (k + 1) * 2 ^ layer ≡ k * 2 ^ layer + 2 ^ layer = omega arith in
    (first_pad-place (block_count len) layer k).1 (omega (arith, le, next, pos))

-- a piece after which a byte came is whole
complete_whole : (len layer k : ℕ) → k < complete_count layer len → 16384 * ((k + 1) * 2 ^ layer) ≤ len
complete_whole len layer k lt =
    let d : ℕ = 2 ^ layer in
    let n : ℕ = (len - 1) / 16384 in
    let some : (k + 1) * 2 ^ layer ≤ (len - 1) / 16384 / 2 ^ layer * 2 ^ layer = mul-le (k + 1) d (n / d) d (omega (arith, lt)) (omega arith) in
    omega (arith, some, div-mul-le_self n d)

-- and a whole piece is one of these, unless the bytes end with it
whole_complete : (len layer k : ℕ) → (0 < len → len % (16384 * 2 ^ layer) ≡ 0 → ⊥) → 16384 * ((k + 1) * 2 ^ layer) ≤ len → k < complete_count layer len
whole_complete len layer k ragged le =
    let d : ℕ = 2 ^ layer in
    let n : ℕ = (len - 1) / 16384 in
    let pos : 0 < 2 ^ layer = pow_pos layer in
    let next : (k + 1) * 2 ^ layer ≡ k * 2 ^ layer + 2 ^ layer = omega arith in
    elim (cases_lt (16384 * ((k + 1) * 2 ^ layer)) len) [
      | inl less ↦ elim (cases_lt k (n / d)) [
        | inl lt ↦ lt
        | inr ge ↦
            let all : (len - 1) / 16384 / 2 ^ layer * 2 ^ layer + (len - 1) / 16384 % 2 ^ layer ≡ (len - 1) / 16384 = div-add-mod' n d in
            let rest : (len - 1) / 16384 % 2 ^ layer < 2 ^ layer = mod_below n d pos in
            let few : (len - 1) / 16384 / 2 ^ layer * 2 ^ layer ≤ k * 2 ^ layer = mul-le (n / d) d k d ge (omega arith) in
            absurd (omega (arith, all, rest, few, less, next))
      ]
      | inr same ↦
          let is : (k + 1) * (16384 * 2 ^ layer) ≡ len = omega (arith, le, same) in
          let none : len % (16384 * 2 ^ layer) ≡ 0 = ap (λ m. m % (16384 * 2 ^ layer)) (sym is) ∙ mul-mod_left (k + 1) (16384 * 2 ^ layer) in
          absurd (ragged (omega (arith, is, next, pos)) none)
    ]

-- a node that is complete is that over its piece
complete_is : (bytes : List ℕ) (layer k : ℕ) → k < complete_count layer (length bytes)
    → get_or (complete_nodes bytes layer) k [] ≡ get_or (piece_nodes layer bytes) k []
complete_is bytes layer k lt =
    let n : ℕ = block_count (length bytes) in
    let whole : 16384 * ((k + 1) * 2 ^ layer) ≤ length bytes = complete_whole (length bytes) layer k lt in
    let inside : k < first_pad n layer = there_whole (length bytes) layer k whole in
    let next : (k + 1) * 2 ^ layer ≡ k * 2 ^ layer + 2 ^ layer = omega arith in
    let low : layer ≤ height n = elim (cases_lt (height n) layer) [
      | inr le ↦ le
      | inl above ↦ absurd (over (length bytes) layer k lt above)
    ] in
    get_or-map-range_with_len (node bytes layer) 0 (complete_count layer (length bytes)) k k [] lt (omega arith)
    ∙ node_is_over_piece bytes layer k low (omega (arith, inside, first_pad-fits n (height n) layer low (height_enough n)))
    ∙ sym (get_or-map-range_with_len (λ i. piece_node layer (piece_at layer bytes i)) 0 (first_pad n layer) k k [] inside (omega arith))
  where
    over : (len layer k : ℕ) → k < complete_count layer len → height (block_count len) < layer → ⊥
    over len layer k lt above =
        let d : ℕ = 2 ^ layer in
        let n : ℕ = (len - 1) / 16384 in
        let some : (k + 1) * 2 ^ layer ≤ (len - 1) / 16384 / 2 ^ layer * 2 ^ layer = mul-le (k + 1) d (n / d) d (omega (arith, lt)) (omega arith) in
        let next : (k + 1) * 2 ^ layer ≡ k * 2 ^ layer + 2 ^ layer = omega arith in
        let most : block_count len ≤ 2 ^ height (block_count len) = height_enough (block_count len) in
        let grows : 2 ^ height (block_count len) ≤ 2 ^ layer = pow_mono {i = height (block_count len)} {j = layer} (omega (arith, above)) in
        omega (arith, some, div-mul-le_self n d, next, most, grows, pow_pos layer)

-- the bits of bytes that end with a piece
pub marks_whole : (good : List ℕ) (hashes : List (List ℕ)) (layer : ℕ) (bytes : List ℕ) → length bytes % (16384 * 2 ^ layer) ≡ 0
    → AreMarked good hashes (piece_nodes layer bytes) → AreMarkedWhole good hashes layer bytes
marks_whole good hashes layer bytes ends marked = λ k lt.
    let m = marked k lt in
    let count = length-piece_nodes layer bytes in (
      λ is. let h = m.0 is in (whole_there (length bytes) layer k ends (omega (arith, h.0, count)), h.1),
      λ is. m.1 (omega (arith, there_whole (length bytes) layer k is.0, count), is.1),
    )

-- the bits of bytes that end within a piece, or of none
pub marks_complete : (good : List ℕ) (hashes : List (List ℕ)) (layer : ℕ) (bytes : List ℕ)
    → (0 < length bytes → length bytes % (16384 * 2 ^ layer) ≡ 0 → ⊥)
    → AreMarked good hashes (complete_nodes bytes layer) → AreMarkedWhole good hashes layer bytes
marks_complete good hashes layer bytes ragged marked = λ k lt.
    let m = marked k lt in
    let count = length-complete_nodes bytes layer in (
      λ is.
          let h = m.0 is in
          let few : k < complete_count layer (length bytes) = omega (arith, h.0, count) in
          (complete_whole (length bytes) layer k few, sym (complete_is bytes layer k few) ∙ h.1),
      λ is.
          let few : k < complete_count layer (length bytes) = whole_complete (length bytes) layer k ragged is.0 in
          m.1 (omega (arith, few, count), complete_is bytes layer k few ∙ is.1),
    )
