use Rattle.std.proofs.Common.{◌≡◌, ℕ, ◌+◌, ◌-◌, ◌*◌, length, inl, inr, ◌∙◌, arith}
use Rattle.std.proofs.lemmas.Bool.{cases_lt}
use Rattle.lanes.specs.declared.words.TheConstants.{LANES}
use Rattle.file_windows.proofs.cuts.both.write_both.Goals as goal

pub turns-preserved : goal.turns-preserved
turns-preserved c =
    let was = c.turns.invariant in
    let now = c.take_turn.ensures in
    let first : ℕ = LANES * c.turns.turn in
    let same : length c.take_turn.new.digests ≡ length c.turns.digests = now.count in
    record {
      own_count = now.own_count ∙ was.own_count;
      count = now.count ∙ was.count;
      own = λ i below inside. elim (cases_lt i first) [
        | inl before ↦ now.own_kept i before ∙ was.own i before (omega (arith, inside, same))
        | inr here ↦
            let spot : first + (i - first) ≡ i = omega (arith, here) in
            rw spot at (now.own (i - first) (omega (arith, below, here)) (omega (arith, inside, here, same)))
      ];
      digests = λ i below inside. elim (cases_lt i first) [
        | inl before ↦ now.kept i before ∙ was.digests i before (omega (arith, inside, same))
        | inr here ↦
            let spot : first + (i - first) ≡ i = omega (arith, here) in
            rw spot at (now.digests (i - first) (omega (arith, below, here)) (omega (arith, inside, here, same)))
      ];
    }
