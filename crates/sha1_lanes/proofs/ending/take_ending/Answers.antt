use Rattle.std.proofs.Common.{◌∙◌, ◌++◌, ℕ, List, length, ap, arith}
use Rattle.sha1.specs.Sha1.{compress}
use Rattle.sha1_lanes.specs.Batches.{state_in}
use Rattle.sha1_lanes.proofs.Endings.{ended_once, ended_twice, with_length}
use Rattle.sha1_lanes.proofs.ending.take_ending.Goals as goal
use Rattle.sha1_lanes.proofs.ending.take_ending.Goals.{then-rest-ge-ROOM, else-rest-ge-ROOM}

pub returns : goal.returns
returns c j lt m whole size value =
    let rest : List ℕ = c.args.rest.now in
    let last = c.put_length.ensures (length (m ++ rest)) size in
    c.take_block-2.ensures j lt ∙ elim c.if-rest-ge-ROOM.branch [
      | then-rest-ge-ROOM w ↦
          ap (λ s. compress (state_in j s) c.put_length.new.block) w.state-is
          ∙ ap (λ h. compress h c.put_length.new.block) (w.take_block.ensures j lt ∙ ap (compress (state_in j c.args.state.now)) c.begun_block-block.ensures)
          ∙ ended_twice m rest c.put_length.new.block (state_in j c.args.state.now) whole (omega (arith, w.if-rest-ge-ROOM.true)) c.requires
          (last ∙ ap (λ b. with_length b (length (m ++ rest))) w.block-is) value
      | else-rest-ge-ROOM w ↦
          ap (λ s. compress (state_in j s) c.put_length.new.block) w.state-is
          ∙ ended_once m rest c.put_length.new.block (state_in j c.args.state.now) whole (omega (arith, w.if-rest-ge-ROOM.false))
          (last ∙ ap (λ b. with_length b (length (m ++ rest))) (w.block-is ∙ c.begun_block-block.ensures)) value
    ]
