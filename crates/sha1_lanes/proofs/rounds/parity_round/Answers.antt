use Rattle.std.proofs.Common.{◌%◌, ◌∙◌, ap, map, slice_index, sym, arith}
use Rattle.std.proofs.lemmas.List.{map-set}
use Rattle.sha1.proofs.Schedule.{round_constant_parity, round_fn_parity, rounds_window}
use Rattle.lanes.specs.Lanes.{lane, word_in}
use Rattle.sha1_lanes.specs.Batches.{state_in}
use Rattle.sha1_lanes.proofs.rounds.parity_round.Goals as goal

pub returns : goal.returns
returns c j lt b h held =
    let ring = c.args.ring.now in
    let v = c.args.v in
    let t = c.args.t in
    rounds_window b h (lane j ring) (state_in j v) t _ _ _ _ _ (omega arith) (omega arith) held.0 held.1
    (c.next_word-word.ensures.value j lt)
    (ap (map (λ x. slice_index x j)) c.next_word-word.ensures.window
    ∙ map-set (λ x. slice_index x j) ring (t % 16) c.next_word-word.result)
    (c.parity-chosen.ensures j lt ∙ sym (round_fn_parity t (word_in v 1 j) (word_in v 2 j) (word_in v 3 j) (omega arith) (omega arith)))
    (sym (round_constant_parity t (omega arith) (omega arith))) (c.round.ensures j lt)
