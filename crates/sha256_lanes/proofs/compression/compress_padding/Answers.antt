use Rattle.std.proofs.Common.{◌≡◌, refl, ap, ◌*◌, ◌∙◌, arith}
use Rattle.sha2.specs.Sha256.{add_state, compress, padding, rounds, schedule}
use Rattle.sha256_lanes.specs.Lanes.{sha256_state_in}
use Rattle.sha256_lanes.proofs.compression.compress_padding.Goals as goal

pub turns-init : goal.turns-init
unfolding rounds
turns-init c j lt = refl

pub turns-preserved : goal.turns-preserved
turns-preserved c j lt =
    let h = sha256_state_in j c.args.state.now in
    c.four_padding_rounds-v.ensures j lt h (c.turns.invariant j lt) ∙ ap (rounds h (schedule (padding 64) 48)) (omega arith)

pub returns : goal.returns
unfolding compress
returns c j lt =
    let all : 4 * c.turns.turn ≡ 64 = omega arith in
    c.added.ensures j lt ∙ ap (add_state (sha256_state_in j c.args.state.now)) (rw all at (c.turns.invariant j lt))
