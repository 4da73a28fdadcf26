use Rattle.std.proofs.Common.{ℕ, List, ◌*◌, length, ap, ◌∙◌}
use Rattle.lanes.specs.Lanes.{bytes_in}
use Rattle.sha1.specs.Sha1.{compress, digest_bytes, padding, sha1, word_at}
use Rattle.sha1_lanes.proofs.Blocks.{padded_once}
use Rattle.sha1_lanes.proofs.batch.Batch.finish.Goals as goal

pub returns : goal.returns
unfolding bytes_in digest_bytes sha1
returns c j lt m held =
    let pad = c.padding_block.ensures (length m) held.whole held.length_is in
    let value =
    c.compress.ensures j lt (padding (length m))
    (λ k below. c.same_block-words.ensures j k lt below ∙ ap (λ b. word_at b (4 * k)) pad)
    ∙ ap (λ h. compress h (padding (length m))) (c.state-state.ensures j lt ∙ held.value_is)
    ∙ padded_once m held.whole in
    c.digests_of.ensures j lt ∙ ap (λ (h : List ℕ). digest_bytes h 5) value
