use Rattle.std.proofs.Common.{Ok, ap, ◌∙◌}
use Rattle.btcheck_c.proofs.HeldBlocks.{SettledNext, settled_next, settled_none, settled_refused, settled_some}
use Rattle.btcheck_c.proofs.holding.settle_held.Goals as goal
use Rattle.btcheck_c.proofs.holding.settle_held.Goals.{After-settle_next}

next : (c : After-settle_next) → SettledNext c.args.session.now c.args.held.now.holdings c.args.held.now.cursor.pieces c.settle_next.result
    c.settle_next.new.session c.settle_next.new.self c.settle_next.new.pieces
next c =
    let e = c.settle_next.ensures in
    settled_next c.args.session.now c.args.held.now.holdings c.args.held.now.cursor.pieces c.settle_next.result c.settle_next.new.session
    c.settle_next.new.self c.settle_next.new.pieces e.settled e.unsettled e.same_session e.same_holdings e.no_memory e.no_session e.no_holdings

pub returns-in-Ok-None-clause-done : goal.returns-in-Ok-None-clause-done
returns-in-Ok-None-clause-done c = settled_none c.args.session.now c.settle_next.new.session c.args.held.now c.settle_next.new.self
    c.settle_next.new.pieces c.settle_next.result (next (goal.at.returns-in-Ok-None-clause-done c).After-settle_next) c.args.run.now
    (c.in-Ok-None.is ∙ ap Ok c.in-Ok-None.field-0-is)

pub returns-in-Ok-Some-clause-done : goal.returns-in-Ok-Some-clause-done
returns-in-Ok-Some-clause-done c = settled_some c.args.session.now c.settle_next.new.session c.args.held.now c.settle_next.new.self
    c.settle_next.new.pieces c.settle_next.result (next (goal.at.returns-in-Ok-Some-clause-done c).After-settle_next) c.at-held.result
    c.in-Ok-Some.settled c.write_settled.result c.write_settled.new.run (c.in-Ok-Some.is ∙ ap Ok c.in-Ok-Some.field-0-is) c.at-held.ensures.pieces
    c.write_settled.ensures

pub returns-in-Err-clause-done : goal.returns-in-Err-clause-done
returns-in-Err-clause-done c = settled_refused c.args.session.now c.settle_next.new.session c.args.held.now c.settle_next.new.self
    c.settle_next.new.pieces c.settle_next.result (next (goal.at.returns-in-Err-clause-done c).After-settle_next) c.at-held-in-Err.result
    c.in-Err.field-0 c.args.run.now c.in-Err.is c.at-held-in-Err.ensures.pieces
