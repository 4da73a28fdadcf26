use Rattle.lanes.specs.declared.words.TheConstants.{LANES}
use Rattle.std.proofs.Common.{◌≡◌, ◌/◌, length, take, drop, ap, ap₂, sym, ◌∙◌, arith}
use Rattle.sha2.specs.Sha256.{compress, hash_after, initial_hash_256, padding}
use Rattle.sha256_lanes.specs.Lanes.{message}
use Rattle.lanes.proofs.Messages.{length-message}
use Rattle.sha256_lanes.proofs.Pairs.{padded_once}
use Rattle.sha256_lanes.proofs.messages.pair_values.Goals as goal

pub returns : goal.returns
unfolding hash_after
returns c j lt =
    let m = message c.args.messages.now 64 j in
    let len : length m ≡ 64 = length-message LANES c.args.messages.now 64 j c.requires lt in
    let one : length m / 64 ≡ 1 = omega arith in
    let taken = c.take_block.ensures j lt ∙ ap (λ h. compress h (take 64 (drop 0 m))) (c.initial_state-state.ensures j lt) in
    c.compress_padding.ensures j lt
    ∙ ap (λ h. compress h (padding 64)) taken
    ∙ ap₂ (λ n size. compress (hash_after initial_hash_256 m n) (padding size)) (sym one) (sym len)
    ∙ padded_once initial_hash_256 m (omega arith)
