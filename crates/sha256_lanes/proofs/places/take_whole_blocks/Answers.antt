use Rattle.std.proofs.Common.{◌≡◌, ◌+◌, ◌*◌, ◌≤◌, take, drop, length, slice_index, ap, ◌∙◌, arith}
use Rattle.sha2.specs.Sha256.{padded_message, word_at}
use Rattle.lanes.specs.Lanes.{bytes_at}
use Rattle.lanes.proofs.Messages.{word_of_bytes}
use Rattle.sha256_lanes.proofs.Blocks.{byte_of_message}
use Rattle.sha256_lanes.proofs.places.take_whole_blocks.Goals as goal

pub returns : goal.returns
returns c j lt =
    let bytes = c.args.buffer.now in
    let start = slice_index c.args.starts.now j in
    let size = slice_index c.args.sizes.now j in
    let at = 64 * c.args.block in
    let m = padded_message (bytes_at bytes start size) in
    let fits : start + size ≤ length bytes = c.requires.inside j lt in
    let whole : 64 * (c.args.block + 1) ≤ size = c.requires.whole j lt in
    c.compress.ensures j lt (take 64 (drop at m)) (λ k below.
    let spot : start + (at + 4 * k) ≡ start + at + 4 * k = omega arith in
    c.block_of_places-words.ensures j k lt below
    ∙ ap (word_at bytes) spot
    ∙ word_of_bytes bytes m (start + at) at k below (λ i inside.
    let here : start + at + i ≡ start + (at + i) = omega arith in
    ap (slice_index bytes) here ∙ byte_of_message bytes start size (at + i) fits (omega arith)))
