use Rattle.std.proofs.Common.{◌*◌, take, drop, ◌∙◌}
use Rattle.sha256_lanes.specs.Lanes.{message}
use Rattle.lanes.proofs.Messages.{word_of_block}
use Rattle.sha256_lanes.proofs.messages.take_block.Goals as goal

pub returns : goal.returns
returns c j lt =
    let row = c.args.messages.now in
    let size = c.args.size in
    let at = c.args.at in
    c.compress.ensures j lt (take 64 (drop at (message row size j)))
    (λ k below. c.block_at-words.ensures j k lt below ∙ word_of_block row (j * size) size at k c.requires.in_message below)
