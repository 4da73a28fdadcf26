use Rattle.std.proofs.Common.{◌≡◌, ◌+◌, ◌-◌, ◌*◌, inl, inr, ◌∙◌, length, arith}
use Rattle.std.proofs.lemmas.Bool.{cases_lt}
use Rattle.file_windows.proofs.blocks.leaves.leaves_of.Goals as goal

pub turns-preserved : goal.turns-preserved
turns-preserved c = (
  c.take_eight.ensures.count ∙ c.turns.invariant.0,
  λ k below inside. elim (cases_lt k (8 * c.turns.turn)) [
    | inl before ↦ c.take_eight.ensures.kept _ (c.turns.invariant.1 k before (omega (arith, c.take_eight.ensures.count)))
    | inr now ↦
        let spot : 8 * c.turns.turn + (k - 8 * c.turns.turn) ≡ k = omega arith in
        rw spot at (c.take_eight.ensures.taken (k - 8 * c.turns.turn) (omega arith) (omega (arith, c.take_eight.ensures.count)))
  ],
)

pub returns-clause-leaves : goal.returns-clause-leaves
returns-clause-leaves c i lt =
    let sizes : length c.args.sizes.now ≡ length c.args.leaves.now = c.requires.sizes in
    let (k, below, found) = c.by_length-order.ensures.reaches i (omega (arith, c.turns.invariant.0)) in
    rw found at (c.turns.invariant.1 k (omega (arith, c.turns.invariant.0)) (omega (arith, c.turns.invariant.0)))
