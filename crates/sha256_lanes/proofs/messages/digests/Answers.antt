use Rattle.std.proofs.Common.{ℕ, List, ap, ◌∙◌}
use Rattle.lanes.specs.Lanes.{bytes_in}
use Rattle.sha2.specs.Sha256.{digest_bytes, sha256}
use Rattle.sha256_lanes.proofs.messages.digests.Goals as goal

pub returns : goal.returns
unfolding bytes_in digest_bytes sha256
returns c j lt = c.digests_of.ensures j lt ∙ ap (λ (h : List ℕ). digest_bytes h 8) (c.hash_values-state.ensures j lt)
