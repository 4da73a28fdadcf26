use Rattle.lanes.specs.declared.words.TheConstants.{LANES}
use Rattle.std.proofs.Common.{◌≡◌, ℕ, inl, inr, ◌+◌, ◌≤◌, ◌<◌, slice_index, sym, ◌∙◌, arith}
use Rattle.std.proofs.lemmas.Bool.{cases_lt}
use Rattle.lanes.specs.Lanes.{bytes_at, bytes_in}
use Rattle.sha2.specs.Sha256.{digest_bytes, hash_after, initial_hash_256, padded_message}
use Rattle.sha256_lanes.specs.Lanes.{padded_block_count, sha256_state_in}
use Rattle.sha256_lanes.proofs.Blocks.{block_after, digest_of_blocks, length-bytes_at}
use Rattle.sha256_lanes.proofs.places.digests_at.Goals as goal

pub whole-init : goal.whole-init
unfolding hash_after
whole-init c j lt = c.initial_state-state.ensures j lt

pub whole-preserved : goal.whole-preserved
whole-preserved c j lt =
    let m = padded_message (bytes_at c.args.buffer.now (slice_index c.args.starts.now j) (slice_index c.args.sizes.now j)) in
    block_after initial_hash_256 m c.whole.block _ _ (c.whole.invariant j lt) (c.take_whole_blocks.ensures j lt)

pub padded-preserved : goal.padded-preserved
unfolding bytes_in digest_bytes
padded-preserved c =
    let bytes = c.args.buffer.now in
    let starts = c.args.starts.now in
    let sizes = c.args.sizes.now in
    let after : (j : ℕ) → j < LANES → c.padded.block + 1 ≤ padded_block_count (slice_index sizes j)
    → sha256_state_in j c.take_blocks.new.state ≡ hash_after initial_hash_256
    (padded_message (bytes_at bytes (slice_index starts j) (slice_index sizes j))) (c.padded.block + 1) =
    λ j lt more. block_after initial_hash_256
    (padded_message (bytes_at bytes (slice_index starts j) (slice_index sizes j)))
    c.padded.block _ _ (c.padded.invariant.0 j lt (omega arith)) (c.take_blocks.ensures j lt (omega arith)) in (
      after,
      λ j lt done. elim (cases_lt (padded_block_count (slice_index c.args.sizes.now j)) (c.padded.block + 1)) [
        | inl before ↦ c.keep_finished.ensures.before j lt before ∙ c.padded.invariant.1 j lt (omega arith)
        | inr last ↦
            let now : padded_block_count (slice_index c.args.sizes.now j) ≡ c.padded.block + 1 = omega arith in
            c.keep_finished.ensures.finished j lt now
            ∙ digest_of_blocks (bytes_at c.args.buffer.now (slice_index c.args.starts.now j) (slice_index c.args.sizes.now j))
            (c.padded.block + 1) _
            (rw (length-bytes_at c.args.buffer.now (slice_index c.args.starts.now j) (slice_index c.args.sizes.now j) (c.requires j lt)) (sym now))
            (after j lt (omega arith))
      ],
    )
