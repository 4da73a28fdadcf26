use Rattle.std.proofs.Common.{◌≡◌, ℕ, ◌-◌, ◌++◌, List, [], length, ap, ◌∙◌, arith, append-nil}
use Rattle.lanes.specs.declared.words.TheConstants.{LANES}
use Rattle.lanes.specs.Lanes.{bytes_in}
use Rattle.sha1.specs.Sha1.{digest_bytes, sha1}
use Rattle.sha1_lanes.proofs.relay.last_digest.Goals as goal

pub returns : goal.returns
unfolding bytes_in digest_bytes sha1
returns c m whole long value =
    let same : length (m ++ []) ≡ length m = ap length (append-nil m) in
    let ended = c.take_ending.ensures (LANES - 1) (omega arith) m whole (omega (arith, same, long)) value in
    c.digest_of.ensures ∙ ap (λ (h : List ℕ). digest_bytes h 5) ended ∙ ap sha1 (append-nil m)
