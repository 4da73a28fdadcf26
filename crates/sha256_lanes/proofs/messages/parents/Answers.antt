use Rattle.std.proofs.Common.{ℕ, List, ap, ◌∙◌, arith}
use Rattle.lanes.specs.Lanes.{bytes_in}
use Rattle.sha2.specs.Sha256.{digest_bytes, final_hash, initial_hash_256, sha256}
use Rattle.sha256_lanes.specs.Lanes.{message}
use Rattle.sha256_lanes.proofs.Pairs.{message_of_pair}
use Rattle.sha256_lanes.proofs.messages.parents.Goals as goal

pub returns : goal.returns
unfolding bytes_in digest_bytes sha256
returns c j lt =
    let value =
    c.pair_values-state.ensures j lt
    ∙ ap (λ bytes. final_hash initial_hash_256 (message bytes 64 j)) c.as_flattened.ensures.value
    ∙ ap (final_hash initial_hash_256) (message_of_pair c.args.hashes.now j c.recall_hashes.ensures (omega arith)) in
    c.digests_of.ensures j lt ∙ ap (λ (h : List ℕ). digest_bytes h 8) value
