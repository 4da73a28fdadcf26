-- Bytes that complete no node of a layer.
use Rattle.std.proofs.Common.{◌≡◌, ℕ, ◌-◌, ◌*◌, ◌/◌, ◌^◌, ◌≤◌, List, ◌++◌, length, take, refl, ap, sym, ◌∙◌, subst, arith}
use Rattle.std.proofs.Math.Nat.{div-mul-le_self}
use Rattle.std.proofs.lemmas.List.{take_all}
use Rattle.std.proofs.lemmas.List.FromFn.{take-map-range_with_len}
use Rattle.sha2.specs.Sha256.{sha256}
use Rattle.hashtree.specs.Climb.{climb}
use Rattle.hashtree.specs.Complete.{complete_count, complete_nodes}
use Rattle.hashtree.specs.Tree.{block, block_hashes}
use Rattle.hashtree.proofs.Blocks.{block_hashes_append}
use Rattle.hashtree.proofs.Complete.{climbed_complete, length-complete_nodes}
use Rattle.hashtree.proofs.Rows.{take-climb}

-- the blocks under complete nodes are closed
under : (layer count : ℕ) → complete_count layer count * 2 ^ layer ≤ (count - 1) / 16384
under layer count = div-mul-le_self ((count - 1) / 16384) (2 ^ layer)

-- the complete nodes stand over these blocks alone
over_blocks : (file : List ℕ) (layer c : ℕ) → complete_count layer (length file) ≡ c
    → complete_nodes file layer ≡ climb layer (block_hashes file (c * 2 ^ layer))
over_blocks file layer c is =
    let n : ℕ = (length file - 1) / 16384 in
    let few : c * 2 ^ layer ≤ n = subst (λ k. k * 2 ^ layer ≤ (length file - 1) / 16384) is (under layer (length file)) in
    let size : length (complete_nodes file layer) ≡ c = length-complete_nodes file layer ∙ is in
    sym (take_all c (complete_nodes file layer) (omega (arith, size)))
    ∙ ap (take c) (sym (climbed_complete file n layer refl))
    ∙ take-climb layer c (block_hashes file n)
    ∙ ap (climb layer) (take-map-range_with_len (λ i. sha256 (block file i)) 0 n (c * 2 ^ layer) few)

-- further bytes that complete none leave them as they are
pub same_complete : (file more : List ℕ) (layer : ℕ) → complete_count layer (length file) ≡ complete_count layer (length (file ++ more))
    → complete_nodes (file ++ more) layer ≡ complete_nodes file layer
same_complete file more layer same =
    let c : ℕ = complete_count layer (length file) in
    let few : 16384 * (c * 2 ^ layer) ≤ length file = omega (arith, under layer (length file)) in
    over_blocks (file ++ more) layer c (sym same)
    ∙ ap (climb layer) (block_hashes_append file more (c * 2 ^ layer) few)
    ∙ sym (over_blocks file layer c refl)
