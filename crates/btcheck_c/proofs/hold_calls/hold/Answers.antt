use Rattle.btcheck_c.specs.Held.{HoldsBlocks}
use Rattle.btcheck_c.proofs.Throughs.{with_holdings}
use Rattle.btcheck_c.proofs.hold_calls.hold.Goals as goal

pub returns-in-Holdings-clause-done : goal.returns-in-Holdings-clause-done
returns-in-Holdings-clause-done c =
    let p = c.args.piece.now in
    with_holdings (HoldsBlocks p.index p.begin p.bytes.now c.hold_blocks-answer.new.out) c.args.session.now c.hold_blocks-answer.new.session
    c.args.holdings.now.slot.held c.put.new.self.slot.held c.in-Some.thing.value c.deref_mut.result.now c.in-Holdings.held c.hold_blocks-answer.new.held
    c.hold_blocks-answer.result c.in-Some.ensures.taken c.deref_mut.ensures.value c.in-Holdings.is c.put.ensures c.hold_blocks-answer.ensures.done
