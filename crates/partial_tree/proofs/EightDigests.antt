-- The digests of eight blocks that are hashed side by side.
use Rattle.std.proofs.Common.{◌≡◌, ℕ, ◌+◌, ◌-◌, ◌*◌, ◌<◌, List, [], take, drop, get_or, ap, ◌∙◌, arith, take-take}
use Rattle.std.proofs.lemmas.List.{drop-drop, drop-take}
use Rattle.sha2.specs.Sha256.{sha256}
use Rattle.sha256_lanes.specs.Lanes.{message}
use Rattle.hashtree.specs.Tree.{block}
use Rattle.partial_tree.specs.declared.block_digests.BlockDigests.{BlockDigests}
use Rattle.partial_tree.specs.BlockDigests.{AreDigests}

pub none_there : (d : BlockDigests) (bytes : List ℕ) → d.end ≡ 0 → AreDigests d bytes
none_there d bytes none = record { are = λ m low to. absurd (omega (arith, none, low)) }

-- a block of eight that stand side by side is one of all
block_of_part : (bytes : List ℕ) (n j : ℕ) → j < 8 → message (take 131072 (drop (16384 * n) bytes)) 16384 j ≡ block bytes (n + j)
block_of_part bytes n j lt =
    let all : 131072 ≡ j * 16384 + (131072 - j * 16384) = omega (arith, lt) in
    let at : 16384 * n + j * 16384 ≡ 16384 * (n + j) = omega arith in
    ap (λ k. take 16384 (drop (j * 16384) (take k (drop (16384 * n) bytes)))) all
    ∙ ap (take 16384) (drop-take (j * 16384) (131072 - j * 16384) (drop (16384 * n) bytes))
    ∙ take-take 16384 (131072 - j * 16384) (drop (j * 16384) (drop (16384 * n) bytes)) (omega (arith, lt))
    ∙ ap (take 16384) (drop-drop (j * 16384) (16384 * n) bytes)
    ∙ ap (λ k. take 16384 (drop k bytes)) at

pub eight_there : (d : BlockDigests) (bytes : List ℕ) (n : ℕ) → d.end ≡ n + 8
    → ((j : ℕ) → j < 8 → get_or d.hashes j [] ≡ sha256 (message (take 131072 (drop (16384 * n) bytes)) 16384 j)) → AreDigests d bytes
eight_there d bytes n end are = record {
  are = λ m low to.
      let place : m + 8 - d.end ≡ m - n = omega (arith, end, to) in
      let here : n + (m - n) ≡ m = omega (arith, end, to) in
      ap (λ k. get_or d.hashes k []) place
      ∙ are (m - n) (omega (arith, end, low, to))
      ∙ ap sha256 (block_of_part bytes n (m - n) (omega (arith, end, low, to)) ∙ ap (block bytes) here);
}
