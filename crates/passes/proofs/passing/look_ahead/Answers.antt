use Rattle.std.proofs.Common.{Bool, ◌≡◌, ◌∙◌, true, false, Ok, Err, Some, None, sym, refl, subst, arith}
use Rattle.passes.proofs.Looking.{looked_last, looked_more, looked_none, looked_now}
use Rattle.passes.proofs.passing.look_ahead.Goals as goal

not_both : (b : Bool) → b ≡ true → b ≡ false → ⊥
not_both b on off = cc

pub paths-init : goal.paths-init
paths-init g c = record {
  fits = c.requires.fits;
  looked = looked_none g.S.Shelf g.S.File.Source.seen (g.J.Job.task c.args.job.now) c.args.from c.args.shelf.now c.args.held.now.answers c.requires.none
      (omega (arith, c.requires.there));
  cutting = refl;
}

pub returns-then-is_turn-clause-ends : goal.returns-then-is_turn-clause-ends
returns-then-is_turn-clause-ends g c =
    looked_now g.S.Shelf g.S.File.Source.seen (g.J.Job.task c.args.job.now) c.args.from c.args.shelf.now c.paths.number c.paths.held.answers c.paths.shelf
    c.paths.invariant.looked (omega (arith, c.if-is_turn.ensures.some refl, c.len.ensures.value))

pub returns-in-Ok-Some-clause-ends : goal.returns-in-Ok-Some-clause-ends
returns-in-Ok-Some-clause-ends g c =
    looked_last g.S.Shelf g.S.File.Source.seen (g.J.Job.task c.args.job.now) c.args.from c.args.shelf.now c.paths.number c.paths.held
    c.look_and_hold.new.held c.paths.shelf c.look_and_hold.new.shelf (Ok (Some c.in-Ok-Some.found)) c.paths.invariant.looked
    (omega (arith, c.if-is_turn.ensures.few refl, c.len.ensures.value)) (rw c.in-Ok-Some.field-0-is at c.in-Ok-Some.ensures.ends)
    (λ some. c.may_wait-may_wait.ensures.waits (c.if-is_turn.ensures.waits refl (omega (arith, c.len.ensures.value, some))))

pub returns-in-Err-clause-ends : goal.returns-in-Err-clause-ends
returns-in-Err-clause-ends g c =
    looked_last g.S.Shelf g.S.File.Source.seen (g.J.Job.task c.args.job.now) c.args.from c.args.shelf.now c.paths.number c.paths.held
    c.look_and_hold.new.held c.paths.shelf c.look_and_hold.new.shelf (Err c.in-Err.stop) c.paths.invariant.looked
    (omega (arith, c.if-is_turn.ensures.few refl, c.len.ensures.value)) c.in-Err.ensures.ends
    (λ some. c.may_wait-may_wait.ensures.waits (c.if-is_turn.ensures.waits refl (omega (arith, c.len.ensures.value, some))))

pub returns-then-not-may_wait-clause-ends : goal.returns-then-not-may_wait-clause-ends
returns-then-not-may_wait-clause-ends g c =
    looked_last g.S.Shelf g.S.File.Source.seen (g.J.Job.task c.args.job.now) c.args.from c.args.shelf.now c.paths.number c.paths.held
    c.look_and_hold.new.held c.paths.shelf c.look_and_hold.new.shelf (Ok None) c.paths.invariant.looked
    (omega (arith, c.if-is_turn.ensures.few refl, c.len.ensures.value)) (rw c.in-Ok-None.field-0-is at c.in-Ok-None.ensures.ends)
    (λ some. absurd (not_both c.may_wait-may_wait.result (c.if-is_turn.ensures.waits refl (omega (arith, c.len.ensures.value, some))) c.if-not-may_wait.true))

pub returns-clause-ends : goal.returns-clause-ends
returns-clause-ends g c =
    let looked = c.paths.invariant.looked in
    looked_now g.S.Shelf g.S.File.Source.seen (g.J.Job.task c.args.job.now) c.args.from c.args.shelf.now c.paths.number c.paths.held.answers c.paths.shelf
    looked (omega (arith, looked.place, c.requires.there, c.paths-test.false, c.len-number-end.ensures))

pub paths-preserved : goal.paths-preserved
paths-preserved g c =
    let one = rw c.in-Ok-None.field-0-is at c.in-Ok-None.ensures.ends in
    record {
      fits = c.look_and_hold.ensures.fits;
      looked = looked_more g.S.Shelf g.S.File.Source.seen (g.J.Job.task c.args.job.now) c.args.from c.args.shelf.now c.paths.number c.paths.held
          c.look_and_hold.new.held c.paths.shelf c.look_and_hold.new.shelf c.paths.invariant.looked
          (omega (arith, c.if-is_turn.ensures.few refl, c.len.ensures.value)) one (c.may_wait-may_wait.ensures.waits c.if-not-may_wait.false);
      cutting = one.ends.0.cutting_is ∙ c.paths.invariant.cutting;
    }

pub look_and_hold-requires-clause-holds : goal.look_and_hold-requires-clause-holds
look_and_hold-requires-clause-holds g c = subst (g.J.Job.task c.args.job.now).holds (sym c.paths.invariant.cutting) c.requires.holds

pub returns-in-Ok-Some-clause-cutting : goal.returns-in-Ok-Some-clause-cutting
returns-in-Ok-Some-clause-cutting g c =
    let one = rw c.in-Ok-Some.field-0-is at c.in-Ok-Some.ensures.ends in
    one.ends.1.cutting_is ∙ c.paths.invariant.cutting

pub returns-in-Err-clause-cutting : goal.returns-in-Err-clause-cutting
returns-in-Err-clause-cutting g c = c.in-Err.ensures.ends.ends.1.cutting_is ∙ c.paths.invariant.cutting

pub returns-then-not-may_wait-clause-cutting : goal.returns-then-not-may_wait-clause-cutting
returns-then-not-may_wait-clause-cutting g c =
    let one = rw c.in-Ok-None.field-0-is at c.in-Ok-None.ensures.ends in
    one.ends.0.cutting_is ∙ c.paths.invariant.cutting
