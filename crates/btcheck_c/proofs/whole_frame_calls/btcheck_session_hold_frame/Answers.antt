use Rattle.btcheck_c.specs.Held.{OnBoth}
use Rattle.btcheck_c.specs.WholeFrames.{HoldsWhole}
use Rattle.btcheck_c.proofs.Throughs.{both_none, through_both}
use Rattle.btcheck_c.proofs.whole_frame_calls.btcheck_session_hold_frame.Goals as goal

pub returns-in_default-clause-done : goal.returns-in_default-clause-done
returns-in_default-clause-done c = both_none (OnBoth (HoldsWhole c.args.asked c.args.frame.now c.args.out.now c.args.out.now)) c.args.session.now.slot.held
    c.take.new.self.slot.held c.args.holdings.now.slot.held c.in_default.ensures.taken c.take.ensures.empty

pub returns-in-Session-clause-done : goal.returns-in-Session-clause-done
returns-in-Session-clause-done c = through_both (HoldsWhole c.args.asked c.args.frame.now c.args.out.now c.hold_beside-answer.new.out)
    c.args.session.now.slot.held c.put.new.self.slot.held
    c.args.holdings.now.slot.held c.hold_beside-answer.new.holdings.slot.held c.in-Some.thing.value c.deref_mut.result.now c.in-Session.lent
    c.hold_beside-answer.new.session c.hold_beside-answer.result c.in-Some.ensures.taken c.deref_mut.ensures.value c.in-Session.is c.put.ensures
    c.hold_beside-answer.ensures.done
