use Rattle.std.proofs.Common.{◌≡◌, ℕ, ◌+◌, ◌-◌, ◌*◌, List, take, drop, refl, ap, ◌∙◌, arith}
use Rattle.sha2.specs.Sha256.{sha256}
use Rattle.sha256_lanes.specs.Lanes.{message}
use Rattle.partial_tree.proofs.EightDigests.{eight_there}
use Rattle.partial_tree.proofs.block_digests.BlockDigests.fill.Goals as goal

pub returns : goal.returns
returns c =
    let n : ℕ = c.args.number in
    let bytes : List ℕ = c.args.bytes.now in
    let size : 16384 * n + 131072 - 16384 * n ≡ 131072 = omega arith in
    eight_there (record { hashes = c.digests-self.result; end = c.args.number + 8 }) bytes n refl
    (λ j lt. c.digests-self.ensures j lt ∙ ap (λ k. sha256 (message (take k (drop (16384 * n) bytes)) 16384 j)) size)
