use Rattle.std.proofs.Common.{refl}
use Rattle.btcheck_c.specs.WholeFrames.{TakesWhole}
use Rattle.btcheck_c.specs.declared.thing.Kind.TheVariants as kind
use Rattle.btcheck_c.proofs.Throughs.{through}
use Rattle.btcheck_c.proofs.whole_frame_calls.btcheck_session_take_frame.Goals as goal

pub returns-in-Session-clause-done : goal.returns-in-Session-clause-done
returns-in-Session-clause-done c = through (TakesWhole c.args.asked c.args.frame.now c.args.out.now c.take_whole-answer.new.out)
    c.args.handle.now.slot.held c.put.new.self.slot.held
    c.in-Some.thing.value c.deref_mut.result.now (kind.Session c.in-Session.session) (kind.Session c.take_whole-answer.new.session) c.take_whole-answer.result
    c.in-Some.ensures.taken c.deref_mut.ensures.value c.in-Session.is c.put.ensures
    (c.take_whole-answer.new.session, (refl, c.take_whole-answer.ensures.done))
