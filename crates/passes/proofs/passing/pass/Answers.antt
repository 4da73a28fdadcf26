use Rattle.std.proofs.Common.{◌∙◌, sym, subst, arith}
use Rattle.passes.proofs.Passed.{LiesAhead, lies_ahead, passed_all, passed_more, stops_looking, stops_taking}
use Rattle.passes.proofs.passing.pass.Given.{Over}
use Rattle.passes.proofs.passing.pass.Goals as goal
use Rattle.passes.proofs.passing.pass.Goals.{After-hash}

-- what lies ahead
ahead : (g : Over) (c : After-hash g) → LiesAhead g.S.Shelf g.S.File.Source.seen (g.J.Job.task c.args.job.now) c.args.shelf.now
    (g.J.Job.state c.args.kept.now c.args.out.now) c.batches.from c.hash.new.self.answers c.in-Ok.last c.look_ahead.new.shelf
    (g.J.Job.state c.batches.kept c.batches.out)
ahead g c =
    let shelf = g.S.Shelf in
    let seen = g.S.File.Source.seen in
    let t = g.J.Job.task c.args.job.now in
    let k = g.J.Job.state c.args.kept.now c.args.out.now in
    let half = g.J.Job.state c.batches.kept c.batches.out in
    subst (λ held. LiesAhead shelf seen t c.args.shelf.now k c.batches.from held c.in-Ok.last c.look_ahead.new.shelf half) (sym c.hash.ensures.kept.answers_are)
    (lies_ahead shelf seen t c.args.shelf.now k c.batches.from c.batches.shelf c.look_ahead.new.shelf half c.look_ahead.new.held.answers
    c.batches.invariant.passed c.in-Ok.last c.in-Ok.ensures.ends)

pub look_ahead-requires-clause-none : goal.look_ahead-requires-clause-none
look_ahead-requires-clause-none g c = c.clear.ensures.answers_are

pub look_ahead-requires-clause-holds : goal.look_ahead-requires-clause-holds
look_ahead-requires-clause-holds g c =
    subst (g.J.Job.task c.args.job.now).holds (sym (c.clear.ensures.cutting_is ∙ c.batches.invariant.cutting)) c.requires.holds

pub take_batch-requires-clause-batch : goal.take_batch-requires-clause-batch
take_batch-requires-clause-batch g c =
    let lies = ahead g (goal.at.take_batch-requires-clause-batch g c).After-hash in
    (lies.all, lies.batch)

pub take_batch-requires-clause-holds : goal.take_batch-requires-clause-holds
take_batch-requires-clause-holds g c =
    subst (g.J.Job.task c.args.job.now).holds
    (sym (c.hash.ensures.kept.cutting_is ∙ c.in-Ok.ensures.cutting ∙ c.clear.ensures.cutting_is ∙ c.batches.invariant.cutting)) c.requires.holds

pub returns-in-Err-clause-stops : goal.returns-in-Err-clause-stops
returns-in-Err-clause-stops g c =
    stops_looking g.S.Shelf g.S.File.Source.seen (g.J.Job.task c.args.job.now) c.args.shelf.now (g.J.Job.state c.args.kept.now c.args.out.now) c.batches.from
    c.batches.shelf c.look_ahead.new.shelf (g.J.Job.state c.batches.kept c.batches.out) c.look_ahead.new.held.answers c.batches.invariant.passed
    c.in-Err.stopped c.in-Err.ensures.ends

pub returns-in-Err-take_batch-clause-stops : goal.returns-in-Err-take_batch-clause-stops
returns-in-Err-take_batch-clause-stops g c =
    let lies = ahead g (goal.at.returns-in-Err-take_batch-clause-stops g c).After-hash in
    let k = g.J.Job.state c.args.kept.now c.args.out.now in
    stops_taking g.S.Shelf g.S.File.Source.seen (g.J.Job.task c.args.job.now) c.args.shelf.now k c.batches.from
    c.look_ahead.new.shelf (g.J.Job.state c.batches.kept c.batches.out) (g.J.Job.state c.take_batch.new.kept c.take_batch.new.out) c.hash.new.self.answers
    c.in-Ok.last lies c.in-Err-take_batch.stopped (c.in-Err-take_batch.ensures.takes k lies.all lies.batch lies.takes)

pub batches-preserved : goal.batches-preserved
batches-preserved g c =
    let lies = ahead g (goal.at.batches-preserved g c).After-hash in
    let k = g.J.Job.state c.args.kept.now c.args.out.now in
    let took = c.in-Ok-take_batch.ensures.takes k lies.all lies.batch lies.takes in
    record {
      fits = c.take_batch.ensures.fits;
      passed = passed_more g.S.Shelf g.S.File.Source.seen (g.J.Job.task c.args.job.now) c.args.shelf.now k c.batches.from
          c.look_ahead.new.shelf (g.J.Job.state c.batches.kept c.batches.out) (g.J.Job.state c.take_batch.new.kept c.take_batch.new.out)
          c.hash.new.self.answers c.in-Ok.last lies c.in-Ok-take_batch.next took;
      ready = c.in-Ok-take_batch.ensures.ready;
      inside = omega (arith, took.0, lies.count, lies.inside, c.len-count.ensures);
      cutting = c.hash.ensures.kept.cutting_is ∙ c.in-Ok.ensures.cutting ∙ c.clear.ensures.cutting_is ∙ c.batches.invariant.cutting;
    }

pub batches-smaller : goal.batches-smaller
batches-smaller g c =
    let lies = ahead g (goal.at.batches-smaller g c).After-hash in
    let took = c.in-Ok-take_batch.ensures.takes (g.J.Job.state c.args.kept.now c.args.out.now) lies.all lies.batch lies.takes in
    omega (arith, took.0, lies.count, lies.more, lies.inside, c.len-count.ensures, c.batches-test.true)

pub returns-clause-all : goal.returns-clause-all
returns-clause-all g c =
    passed_all g.S.Shelf g.S.File.Source.seen (g.J.Job.task c.args.job.now) c.args.shelf.now (g.J.Job.state c.args.kept.now c.args.out.now) c.batches.from
    c.batches.shelf (g.J.Job.state c.batches.kept c.batches.out) c.batches.invariant.passed (omega (arith, c.batches-test.false, c.len-count.ensures))
