use Rattle.std.proofs.Common.{◌≡◌, ℕ, ◌+◌, ◌*◌, ◌++◌, take, drop, replicate, slice_index, ap, ◌∙◌, arith}
use Rattle.sha1.specs.Sha1.{word_at}
use Rattle.lanes.specs.Lanes.{bytes_at}
use Rattle.lanes.proofs.Messages.{word_of_bytes}
use Rattle.sha1_lanes.proofs.Zeros.{byte_with_zeros}
use Rattle.sha1_lanes.proofs.filled.take_mixed_blocks.Goals as goal

pub returns : goal.returns
returns c j lt zeros =
    let own = bytes_at c.args.buffer.now (slice_index c.args.starts.now j) (slice_index c.args.sizes.now j) in
    let m = own ++ replicate {A = ℕ} zeros 0 in
    let at = c.args.at in
    let row = c.places.row in
    c.compress.ensures j lt (take 64 (drop at m)) (λ k below.
    let spot : j * 64 + (0 + 4 * k) ≡ 64 * j + 4 * k = omega arith in
    c.block_at-words.ensures j k lt below
    ∙ ap (word_at row) spot
    ∙ word_of_bytes row m (64 * j) at k below (λ i inside. c.places.invariant.1 j i (omega arith) inside ∙ byte_with_zeros own zeros (at + i)))
