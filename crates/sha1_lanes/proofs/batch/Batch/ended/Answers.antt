use Rattle.std.proofs.Common.{ℕ, List, ap, ◌∙◌, arith, length-append}
use Rattle.lanes.specs.Lanes.{bytes_in}
use Rattle.sha1.specs.Sha1.{digest_bytes, sha1}
use Rattle.sha1_lanes.proofs.batch.Batch.ended.Goals as goal

pub returns : goal.returns
unfolding bytes_in digest_bytes sha1
returns c m held =
    let lt = c.requires.message in
    let value = c.take_ending.ensures c.args.message lt m held.whole
    (omega (arith, held.length_is, length-append m c.args.rest.now)) (c.state-state.ensures c.args.message lt ∙ held.value_is) in
    c.digest_of.ensures ∙ ap (λ (h : List ℕ). digest_bytes h 5) value
