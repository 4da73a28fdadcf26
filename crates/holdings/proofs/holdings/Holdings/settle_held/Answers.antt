use Rattle.std.specs.declared.alloc.AllocError.{AllocError}
use Rattle.holdings.proofs.HeldPieces.{IsHeldPiece, IsSettledInRow, held-kept, low-kept, kept-after, settled-in, unsettled-in, same-in, same-session}
use Rattle.holdings.proofs.HeldPieces.{stays-in, stays-session, complete-in}
use Rattle.holdings.proofs.holdings.Holdings.settle_held.Given.{Over}
use Rattle.holdings.proofs.holdings.Holdings.settle_held.Goals as goal
use Rattle.holdings.proofs.holdings.Holdings.settle_held.Goals.{After-self, After-settle_row}

held : (g : Over) (c : After-self g) → IsHeldPiece c.args.session.now c.self.inside.pieces c.self.inside.ages c.self.inside.most c.self.inside.clock
    c.args.self.now (c.args.piece.tree, c.args.piece.first) c.args.piece.size
held g c = record {
  kept = c.self.invariant;
  view = c.self.view_is;
  seen = c.requires.held.0;
  held = c.requires.held.1;
  long = c.requires.held.2;
  piece = c.requires.piece;
}

settled : (g : Over) (c : After-settle_row g) → IsSettledInRow AllocError c.args.session.now c.settle_row.new.session c.self.inside.pieces
    c.settle_row.new.self c.self.inside.ages c.self.inside.most c.self.inside.clock c.args.self.now (c.args.piece.tree, c.args.piece.first)
    c.args.piece.size c.settle_row.result
settled g c = record {
  held = held g (goal.at.After-settle_row g c).After-self;
  seen = c.settle_row.ensures.cells.0;
  there = c.settle_row.ensures.cells.1;
  settles = c.settle_row.ensures.cells.2;
}

pub settle_row-requires-clause-held : goal.settle_row-requires-clause-held
settle_row-requires-clause-held g c =
    let x = held g (goal.at.settle_row-requires-clause-held g c).After-self in (x.seen, held-kept x, x.long)

pub settle_row-requires-clause-few : goal.settle_row-requires-clause-few
settle_row-requires-clause-few g c = low-kept (held g (goal.at.settle_row-requires-clause-few g c).After-self)

pub invariant_of-self : goal.invariant_of-self
invariant_of-self g c = kept-after (settled g (goal.at.invariant_of-self g c).After-settle_row)

pub returns-clause-settled : goal.returns-clause-settled
returns-clause-settled g c = settled-in (settled g (goal.at.returns-clause-settled g c).After-settle_row)

pub returns-clause-unsettled : goal.returns-clause-unsettled
returns-clause-unsettled g c = unsettled-in (settled g (goal.at.returns-clause-unsettled g c).After-settle_row)

pub returns-clause-same_holdings : goal.returns-clause-same_holdings
returns-clause-same_holdings g c = same-in (settled g (goal.at.returns-clause-same_holdings g c).After-settle_row)

pub returns-clause-same_session : goal.returns-clause-same_session
returns-clause-same_session g c = same-session (settled g (goal.at.returns-clause-same_session g c).After-settle_row)

pub returns-clause-no_memory : goal.returns-clause-no_memory
returns-clause-no_memory g c = complete-in (settled g (goal.at.returns-clause-no_memory g c).After-settle_row)

pub returns-clause-no_holdings : goal.returns-clause-no_holdings
returns-clause-no_holdings g c = stays-in (settled g (goal.at.returns-clause-no_holdings g c).After-settle_row)

pub returns-clause-no_session : goal.returns-clause-no_session
returns-clause-no_session g c = stays-session (settled g (goal.at.returns-clause-no_session g c).After-settle_row)
