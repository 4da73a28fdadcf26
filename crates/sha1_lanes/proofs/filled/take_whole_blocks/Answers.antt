use Rattle.std.proofs.Common.{◌≡◌, ℕ, ◌+◌, ◌*◌, ◌≤◌, ◌++◌, take, drop, replicate, slice_index, ap, ◌∙◌, arith}
use Rattle.sha1.specs.Sha1.{word_at}
use Rattle.lanes.specs.Lanes.{bytes_at}
use Rattle.lanes.proofs.Messages.{byte_of_message, word_of_bytes}
use Rattle.sha1_lanes.proofs.Zeros.{byte_with_zeros}
use Rattle.sha1_lanes.proofs.filled.take_whole_blocks.Goals as goal

pub returns : goal.returns
returns c j lt zeros =
    let bytes = c.args.buffer.now in
    let start = slice_index c.args.starts.now j in
    let size = slice_index c.args.sizes.now j in
    let own = bytes_at bytes start size in
    let m = own ++ replicate {A = ℕ} zeros 0 in
    let at = c.args.at in
    let whole : at + 64 ≤ size = c.requires.whole j lt in
    c.compress.ensures j lt (take 64 (drop at m)) (λ k below.
    let spot : start + (at + 4 * k) ≡ start + at + 4 * k = omega arith in
    c.block_of_places-words.ensures j k lt below
    ∙ ap (word_at bytes) spot
    ∙ word_of_bytes bytes m (start + at) at k below (λ i inside.
    let here : start + at + i ≡ start + (at + i) = omega arith in
    ap (slice_index bytes) here ∙ byte_of_message bytes start size (at + i) (omega arith) ∙ byte_with_zeros own zeros (at + i)))
