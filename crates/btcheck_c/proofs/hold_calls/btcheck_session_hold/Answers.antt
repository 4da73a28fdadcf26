use Rattle.btcheck_c.specs.Held.{HoldsBlocks, OnBoth}
use Rattle.btcheck_c.proofs.Throughs.{both_none, through_both}
use Rattle.btcheck_c.proofs.hold_calls.btcheck_session_hold.Goals as goal

pub returns-in_default-clause-done : goal.returns-in_default-clause-done
returns-in_default-clause-done c = both_none (OnBoth (HoldsBlocks c.args.index c.args.begin c.args.bytes.now c.args.out.now)) c.args.session.now.slot.held
    c.take.new.self.slot.held c.args.holdings.now.slot.held c.in_default.ensures.taken c.take.ensures.empty

pub returns-in-Session-clause-done : goal.returns-in-Session-clause-done
returns-in-Session-clause-done c = through_both (HoldsBlocks c.args.index c.args.begin c.args.bytes.now c.hold-answer.new.out) c.args.session.now.slot.held
    c.put.new.self.slot.held
    c.args.holdings.now.slot.held c.hold-answer.new.holdings.slot.held c.in-Some.thing.value c.deref_mut.result.now c.in-Session.lent
    c.hold-answer.new.session c.hold-answer.result c.in-Some.ensures.taken c.deref_mut.ensures.value c.in-Session.is c.put.ensures
    c.hold-answer.ensures.done
