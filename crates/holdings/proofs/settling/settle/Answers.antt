use Rattle.std.proofs.Common.{◌<◌, IfNone, subst, arith}
use Rattle.holdings.specs.Cells.{AreUnknown}
use Rattle.holdings.specs.Settling.{IsTaken}
use Rattle.holdings.proofs.Settlements.{settles-joined}
use Rattle.holdings.proofs.settling.settle.Goals as goal

pub returns-in-true-clause-settled : goal.returns-in-true-clause-settled
returns-in-true-clause-settled g c =
    let low : c.in-Some-first_held.held < c.args.piece.size = omega (arith, c.in-Some-first_held.ensures.inside, c.requires.size) in
    let unknown = subst (λ o. IfNone o (AreUnknown c.args.session.now c.args.piece.tree c.args.piece.first c.args.piece.size c.args.cells.now)) c.in_default.is
    c.first_known.ensures.none in
    settles-joined c.args.session.now c.args.piece.tree c.args.piece.first c.args.piece.size c.args.cells.now c.join.new.session
    c.in-Some-first_held.held c.judge-in-true.result c.judge-in-true.new.session c.judge-in-true.new.cells unknown
    (subst (λ b. IsTaken c.args.session.now c.args.piece.tree c.args.piece.first c.args.piece.size c.args.cells.now b c.join.new.session) c.in-true.is
    c.in_ok-join.ensures.taken)
    low c.in-Some-first_held.ensures.held c.in-Some-first_held.ensures.first c.judge-in-true.ensures
