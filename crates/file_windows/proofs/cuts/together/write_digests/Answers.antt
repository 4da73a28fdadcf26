use Rattle.std.proofs.Common.{◌≡◌, ◌+◌, ◌-◌, ◌*◌, inl, inr, ◌∙◌, arith}
use Rattle.std.proofs.lemmas.Bool.{cases_lt}
use Rattle.lanes.specs.declared.words.TheConstants.{LANES}
use Rattle.file_windows.proofs.cuts.together.write_digests.Goals as goal

pub turns-preserved : goal.turns-preserved
turns-preserved c = (
  c.take_turn.ensures.count ∙ c.turns.invariant.0,
  λ i below inside. elim (cases_lt i (LANES * c.turns.turn)) [
    | inl before ↦ c.take_turn.ensures.kept i before (c.turns.invariant.1 i before (omega (arith, inside, c.take_turn.ensures.count)))
    | inr now ↦
        let spot : LANES * c.turns.turn + (i - LANES * c.turns.turn) ≡ i = omega (arith, now) in
        rw spot at (c.take_turn.ensures.taken (i - LANES * c.turns.turn) (omega (arith, below, now)) (omega (arith, inside, now, c.take_turn.ensures.count)))
  ],
)
