use Rattle.std.proofs.Common.{◌≡◌, ◌+◌, ◌-◌, ◌*◌, ◌/◌, ◌++◌, length, slice_index, take, drop, ap, sym, ◌∙◌, arith, length-append}
use Rattle.sha1.specs.Sha1.{compress, hash_after}
use Rattle.sha1_lanes.specs.Batches.{filled_at}
use Rattle.sha1_lanes.proofs.Zeros.{length-filled_at}
use Rattle.sha1_lanes.proofs.Blocks.{next_block, no_block}
use Rattle.sha1_lanes.proofs.batch.Batch.update.Goals as goal

pub blocks-2-init : goal.blocks-2-init
blocks-2-init c j lt m held =
    no_block m (filled_at c.args.buffer.now (slice_index c.args.starts.now j) (slice_index c.args.sizes.now j) c.args.whole) _
    (c.state-state.ensures j lt ∙ held.value_is)

pub blocks-2-preserved : goal.blocks-2-preserved
blocks-2-preserved c j lt m held =
    let size = slice_index c.args.sizes.now j in
    let more = filled_at c.args.buffer.now (slice_index c.args.starts.now j) size c.args.whole in
    let n = c.blocks-2.block in
    c.take_filled_block.ensures j lt (c.args.whole - size)
    ∙ ap (λ h. compress h (take 64 (drop (64 * n) more))) (c.blocks-2.invariant j lt m held)
    ∙ sym (next_block m more n held.whole)

pub returns : goal.returns
returns c j lt m held =
    let start = slice_index c.args.starts.now j in
    let size = slice_index c.args.sizes.now j in
    let more = filled_at c.args.buffer.now start size c.args.whole in
    let len : length more ≡ c.args.whole =
    length-filled_at c.args.buffer.now start size c.args.whole (c.requires.inside j lt) (c.requires.fit j lt) in
    let both : length (m ++ more) ≡ length m + length more = length-append m more in
    let all : length m / 64 + c.blocks-2.block ≡ length (m ++ more) / 64 = omega (arith, held.whole) in
    record {
      length_is = omega (arith, held.length_is);
      whole = omega (arith, held.whole);
      value_is = c.of-self.ensures j lt ∙ c.blocks-2.invariant j lt m held ∙ ap (hash_after (m ++ more)) all;
    }
