use Rattle.passes.proofs.Looking.{ends_nothing, ends_ok, ends_stop}
use Rattle.passes.proofs.passing.look_and_hold.Goals as goal

pub returns-in-Ok-clause-ends : goal.returns-in-Ok-clause-ends
returns-in-Ok-clause-ends g c =
    ends_ok g.S.Shelf g.S.File.Source.seen (g.J.Job.task c.args.job.now) c.args.number c.args.shelf.now c.look.new.shelf c.args.held.now c.look.new.held
    c.in-Ok.found c.in-Ok.ensures.looks

pub returns-in-Some-clause-ends : goal.returns-in-Some-clause-ends
returns-in-Some-clause-ends g c =
    let once = c.in-Err.ensures.looks in
    ends_stop g.S.Shelf g.S.File.Source.seen (g.J.Job.task c.args.job.now) c.args.number c.args.shelf.now c.look.new.shelf c.args.held.now c.look.new.held
    c.in-Err.nothing c.in-Some.stop once (rw c.in-Some.is at c.stop_at.ensures once.looks.item once.looks.item_is)

pub returns-in-None-clause-ends : goal.returns-in-None-clause-ends
returns-in-None-clause-ends g c =
    let once = c.in-Err.ensures.looks in
    ends_nothing g.S.Shelf g.S.File.Source.seen (g.J.Job.task c.args.job.now) c.args.number c.args.shelf.now c.look.new.shelf c.args.held.now
    c.look.new.held c.hold_nothing.new.self c.in-Err.nothing once
    (rw c.in-None.is at c.stop_at.ensures once.looks.item once.looks.item_is) c.hold_nothing.ensures
