use Rattle.std.proofs.Common.{◌≡◌, ◌∙◌, ◌+◌, length, slice_get, add_assoc, sym, ap, subst, arith}
use Rattle.chains.proofs.Cases.{item_at}
use Rattle.passes.specs.Batches.{number_behind}
use Rattle.passes.specs.Passing.{TakesTo}
use Rattle.passes.proofs.Taking.{takes_more}
use Rattle.passes.proofs.passing.take_batch.Goals as goal

pub take-requires : goal.take-requires
take-requires g c =
    let t = g.J.Job.task c.args.job.now in
    let i = item_at t.items (c.args.batch.from + c.held.place) (omega (arith, c.requires.batch.1.inside, c.held-test.true, c.len-place-end.ensures.value)) in
    let a = item_at c.args.held.now.answers c.held.place (omega (arith, c.held-test.true, c.len-place-end.ensures.value)) in
    record { fits = c.found-found.ensures.fits; found = (i.0, a.0, i.1, c.found-found.ensures.found i.0 a.0 i.1 a.1); ready = c.held.invariant.ready }

pub returns-in-Err-clause-takes : goal.returns-in-Err-clause-takes
returns-in-Err-clause-takes g c k all are before =
    let t = g.J.Job.task c.args.job.now in
    let i = item_at t.items (c.args.batch.from + c.held.place) (omega (arith, c.requires.batch.1.inside, c.held-test.true, c.len-place-end.ensures.value)) in
    let a = item_at c.args.held.now.answers c.held.place (omega (arith, c.held-test.true, c.len-place-end.ensures.value)) in (
      omega arith,
      record {
        middle = g.J.Job.state c.held.kept c.held.out;
        takes = c.held.invariant.takes k all are before;
        item = i.0;
        item_is = i.1;
        answer = a.0;
        answer_is = are.held_are c.held.place a.0 a.1;
        stops = c.in-Err.ensures.takes i.0 a.0 i.1 (c.found-found.ensures.found i.0 a.0 i.1 a.1);
      },
    )

pub held-preserved : goal.held-preserved
held-preserved g c =
    let t = g.J.Job.task c.args.job.now in
    let i = item_at t.items (c.args.batch.from + c.held.place) (omega (arith, c.requires.batch.1.inside, c.held-test.true, c.len-place-end.ensures.value)) in
    let a = item_at c.args.held.now.answers c.held.place (omega (arith, c.held-test.true, c.len-place-end.ensures.value)) in
    let k' = g.J.Job.state c.take.new.kept c.take.new.out in
    record {
      fits = c.take.ensures.fits;
      takes = λ k all are before.
          subst (λ n. TakesTo t k all n k') (add_assoc c.args.batch.from c.held.place 1)
          (takes_more t k all (c.args.batch.from + c.held.place) (g.J.Job.state c.held.kept c.held.out) k' i.0 a.0 (c.held.invariant.takes k all are before) i.1
          (are.held_are c.held.place a.0 a.1) (c.in_default.ensures.takes i.0 a.0 i.1 (c.found-found.ensures.found i.0 a.0 i.1 a.1)));
      ready = subst (λ n. t.is_ready n k') (add_assoc c.args.batch.from c.held.place 1) c.in_default.ensures.ready;
    }

pub returns-in-Ok-clause-takes : goal.returns-in-Ok-clause-takes
returns-in-Ok-clause-takes g c k all are before =
    let t = g.J.Job.task c.args.job.now in
    let from = c.args.batch.from in
    let last = rw c.in-Some.is at are.last_is in
    let n = from + length c.args.held.now.answers in
    let here : from + c.held.place ≡ n = omega (arith, c.held.auto.place-end, c.held-test.false, c.len-place-end.ensures.value) in
    let there : from + c.len.result ≡ n = omega (arith, c.len.ensures.value) in
    let k' = g.J.Job.state c.take-in-Some.new.kept c.take-in-Some.new.out in
    subst (λ l. (from + c.len.result + 1 ≡ number_behind t l n) × TakesTo t k all (number_behind t l n) k') (sym c.in-Some.is) (
      omega (arith, there),
      takes_more t k all n (g.J.Job.state c.held.kept c.held.out) k' last.item last.answer
          (subst (λ m. TakesTo t k all m (g.J.Job.state c.held.kept c.held.out)) here (c.held.invariant.takes k all are before)) last.item_is last.answer_is
          (c.in-Ok.ensures.takes last.item last.answer (ap (slice_get t.items) there ∙ last.item_is)
          (subst (t.finds last.item last.answer) (sym c.in-Some.found-is) last.finds)),
    )

pub returns-in-Err-take-clause-takes : goal.returns-in-Err-take-clause-takes
returns-in-Err-take-clause-takes g c k all are before =
    let t = g.J.Job.task c.args.job.now in
    let from = c.args.batch.from in
    let last = rw c.in-Some.is at are.last_is in
    let n = from + length c.args.held.now.answers in
    let here : from + c.held.place ≡ from + c.len.result =
    omega (arith, c.held.auto.place-end, c.held-test.false, c.len-place-end.ensures.value, c.len.ensures.value) in
    let there : from + c.len.result ≡ n = omega (arith, c.len.ensures.value) in (
      omega arith,
      record {
        middle = g.J.Job.state c.held.kept c.held.out;
        takes = subst (λ m. TakesTo t k all m (g.J.Job.state c.held.kept c.held.out)) here (c.held.invariant.takes k all are before);
        item = last.item;
        item_is = ap (slice_get t.items) there ∙ last.item_is;
        answer = last.answer;
        answer_is = ap (slice_get all) there ∙ last.answer_is;
        stops = c.in-Err-take.ensures.takes last.item last.answer (ap (slice_get t.items) there ∙ last.item_is)
            (subst (t.finds last.item last.answer) (sym c.in-Some.found-is) last.finds);
      },
    )
