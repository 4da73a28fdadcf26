use Rattle.std.proofs.Common.{◌≡◌, ◌+◌, ◌*◌, ◌/◌, ◌++◌, ◌≤◌, length, slice_index, take, drop, ap, sym, ◌∙◌, arith, length-append}
use Rattle.sha1.specs.Sha1.{compress, hash_after}
use Rattle.lanes.proofs.Messages.{word_of_block}
use Rattle.lanes.specs.Lanes.{bytes_at}
use Rattle.sha1_lanes.proofs.Blocks.{next_block, no_block}
use Rattle.sha1_lanes.proofs.Zeros.{length-bytes_at}
use Rattle.sha1_lanes.proofs.relay.take_blocks.Goals as goal

pub blocks-2-init : goal.blocks-2-init
blocks-2-init c j lt m whole value =
    no_block m (bytes_at c.args.buffer.now (slice_index c.args.starts.now j) c.args.size) _ value

pub blocks-2-preserved : goal.blocks-2-preserved
blocks-2-preserved c j lt m whole value =
    let bytes = c.args.buffer.now in
    let start = slice_index c.args.starts.now j in
    let more = bytes_at bytes start c.args.size in
    let n = c.blocks-2.block in
    let inside : 64 * n + 64 ≤ c.args.size = omega arith in
    c.compress.ensures j lt (take 64 (drop (64 * n) more))
    (λ k below. c.block_of_places-words.ensures j k lt below ∙ word_of_block bytes start c.args.size (64 * n) k inside below)
    ∙ ap (λ h. compress h (take 64 (drop (64 * n) more))) (c.blocks-2.invariant j lt m whole value)
    ∙ sym (next_block m more n whole)

pub returns : goal.returns
returns c j lt m whole value =
    let start = slice_index c.args.starts.now j in
    let more = bytes_at c.args.buffer.now start c.args.size in
    let len : length more ≡ c.args.size = length-bytes_at c.args.buffer.now start c.args.size (c.requires.inside j lt) in
    let all : length m / 64 + c.blocks-2.block ≡ length (m ++ more) / 64 =
    omega (arith, length-append m more, len, whole, c.requires.whole_blocks) in
    c.blocks-2.invariant j lt m whole value ∙ ap (hash_after (m ++ more)) all
