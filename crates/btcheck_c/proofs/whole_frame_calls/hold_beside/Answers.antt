use Rattle.btcheck_c.specs.WholeFrames.{HoldsWhole}
use Rattle.btcheck_c.proofs.Throughs.{with_holdings}
use Rattle.btcheck_c.proofs.whole_frame_calls.hold_beside.Goals as goal

pub returns-in-Holdings-clause-done : goal.returns-in-Holdings-clause-done
returns-in-Holdings-clause-done c = with_holdings (HoldsWhole c.args.asked c.args.frame.now c.args.out.now c.hold_whole-answer.new.out) c.args.session.now
    c.hold_whole-answer.new.session
    c.args.holdings.now.slot.held c.put.new.self.slot.held c.in-Some.thing.value c.deref_mut.result.now c.in-Holdings.held c.hold_whole-answer.new.held
    c.hold_whole-answer.result c.in-Some.ensures.taken c.deref_mut.ensures.value c.in-Holdings.is c.put.ensures c.hold_whole-answer.ensures.done
