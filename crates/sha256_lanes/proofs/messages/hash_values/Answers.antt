use Rattle.lanes.specs.declared.words.TheConstants.{LANES}
use Rattle.std.proofs.Common.{◌≡◌, ◌*◌, ◌/◌, ◌%◌, length, take, drop, ap, sym, ◌∙◌, arith}
use Rattle.sha2.specs.Sha256.{compress, hash_after, initial_hash_256, padding, word_at}
use Rattle.sha2.proofs.Absorbing256.{hash_after_next}
use Rattle.sha256_lanes.specs.Lanes.{message}
use Rattle.lanes.proofs.Messages.{length-message}
use Rattle.sha256_lanes.proofs.Pairs.{padded_once}
use Rattle.sha256_lanes.proofs.messages.hash_values.Goals as goal

pub blocks-2-init : goal.blocks-2-init
unfolding hash_after
blocks-2-init c j lt = c.initial_state-state.ensures j lt

pub blocks-2-preserved : goal.blocks-2-preserved
blocks-2-preserved c j lt =
    let m = message c.args.messages.now c.args.size j in
    let n = c.blocks-2.block in
    let start : 64 * c.blocks-2.block ≡ c.blocks-2.block * 64 = omega arith in
    c.take_block.ensures j lt
    ∙ ap (λ h. compress h (take 64 (drop (64 * n) m))) (c.blocks-2.invariant j lt)
    ∙ ap (λ at. compress (hash_after initial_hash_256 m n) (take 64 (drop at m))) start
    ∙ sym (hash_after_next initial_hash_256 m n)

pub returns : goal.returns
returns c j lt =
    let size = c.args.size in
    let m = message c.args.messages.now size j in
    let len : length m ≡ c.args.size = length-message LANES c.args.messages.now size j c.requires.all lt in
    let whole : length m % 64 ≡ 0 = omega arith in
    let all : c.blocks-2.block ≡ length m / 64 = omega arith in
    let pad = c.compress.ensures j lt (padding size)
    (λ k below. c.same_block-words.ensures j k lt below ∙ ap (λ b. word_at b (4 * k)) c.padding_block.ensures) in
    pad
    ∙ ap (λ h. compress h (padding size)) (c.blocks-2.invariant j lt ∙ ap (hash_after initial_hash_256 m) all)
    ∙ ap (λ n. compress (hash_after initial_hash_256 m (length m / 64)) (padding n)) (sym len)
    ∙ padded_once initial_hash_256 m whole
