use Rattle.holdings.proofs.HeldPieces.{settles-piece}
use Rattle.holdings.proofs.holdings.Holdings.settle_piece.Goals as goal

pub returns-then-is_some-clause-settled : goal.returns-then-is_some-clause-settled
returns-then-is_some-clause-settled g c =
    settles-piece c.args.session.now c.args.self.now (c.args.tree, c.args.first) c.settle_held.new.session c.settle_held.new.self
    c.forget_bare.new.self c.in_ok-settled.settled c.in_ok-settled.ensures.settled c.forget_bare.ensures
