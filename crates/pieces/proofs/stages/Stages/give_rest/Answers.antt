use Rattle.std.proofs.Common.{◌≡◌, ℕ, ◌*◌, ◌≤◌, length, take, drop, refl, ap, subst, sym, ◌∙◌, arith}
use Rattle.std.proofs.lemmas.List.{length-take}
use Rattle.lanes.specs.declared.words.TheConstants.{LANES}
use Rattle.pieces.specs.Cutting.{IsCutting}
use Rattle.pieces.specs.Stored.{slot_bytes}
use Rattle.pieces.proofs.Rest.{rest_given, stretch_given}
use Rattle.pieces.proofs.stages.Stages.give_rest.Goals as goal
use Rattle.pieces.proofs.stages.Stages.give_rest.Goals.{After-slot_of-2}

end : (c : After-slot_of-2) → c.stretches.stretch ≡ c.args.self.now.stretch
end c = omega (arith, c.stretches-test.false, c.stretches.auto.stretch-end)

pub stretches-init : goal.stretches-init
stretches-init c = record {
  piece_length = refl;
  filled = omega (arith, c.requires.empty);
  running = λ step n content draining same cutting.
      let size : ℕ = c.args.self.now.store.size in
      let none : size * 0 ≡ 0 = omega arith in
      subst (λ k. IsCutting c.args.cutter.now (take k (drop (size * (LANES * c.args.self.now.piece)) content))) (sym none) cutting;
}

pub stretches-preserved : goal.stretches-preserved
stretches-preserved c =
    let s = c.args.self.now in
    let i = c.stretches.stretch in
    let before = c.stretches.invariant in
    let slot : ℕ = c.slot_of.result in
    record {
      piece_length = c.take.ensures.piece_length ∙ before.piece_length;
      filled = omega (
        arith,
        before.filled,
        c.take.ensures.filled,
        c.take.ensures.taken,
        c.size-size.ensures.size,
        ap length c.front.ensures,
        length-take c.size-size.result (slot_bytes s.store slot),
      );
      running = λ step n content draining same cutting.
          stretch_given s step n i c.take.result content c.front.result.now c.stretches.cutter c.take.new.self draining c.stretches-test.true
          (c.front.ensures ∙ ap (λ k. take k (slot_bytes s.store slot)) c.size-size.ensures.size
          ∙ ap (λ k. take s.store.size (slot_bytes s.store k)) c.slot_of.ensures.slot)
          (before.piece_length ∙ same) (record { taken_is = c.take.ensures.taken; running = c.take.ensures.running })
          (before.running step n content draining same cutting);
    }

pub returns-clause-filled : goal.returns-clause-filled
returns-clause-filled c =
    let s = c.args.self.now in
    let filled = subst (λ n. c.stretches.cutter.filled ≤ s.store.size * n) (end (goal.at.returns-clause-filled c).After-slot_of-2)
    c.stretches.invariant.filled in
    let long = length-take s.filled (slot_bytes s.store c.slot_of-2.result) in
    omega (arith, filled, c.take-2.ensures.filled, c.take-2.ensures.taken, ap length c.front-2.ensures, long)

pub returns-clause-running : goal.returns-clause-running
returns-clause-running c = λ step n content draining same cutting.
    let s = c.args.self.now in
    rest_given s step n c.take-2.result content c.front-2.result.now c.stretches.cutter c.take-2.new.self draining
    (c.front-2.ensures ∙ ap (λ k. take s.filled (slot_bytes s.store k)) c.slot_of-2.ensures.slot)
    (c.stretches.invariant.piece_length ∙ same) (record { taken_is = c.take-2.ensures.taken; running = c.take-2.ensures.running })
    (subst (λ k. IsCutting c.stretches.cutter (take (s.store.size * k) (drop (s.store.size * (LANES * s.piece)) content)))
    (end (goal.at.returns-clause-running c).After-slot_of-2)
    (c.stretches.invariant.running step n content draining same cutting))
