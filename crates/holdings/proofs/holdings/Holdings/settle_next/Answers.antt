use Rattle.std.proofs.Common.{◌+◌, ◌≤◌, ap, ◌∙◌, subst₂, arith}
use Rattle.session.specs.Session.{SessionSeen}
use Rattle.holdings.specs.declared.piece_range.Pieces.{Pieces}
use Rattle.holdings.specs.Holdings.{HoldingsSeen}
use Rattle.holdings.specs.Next.{AreUnsettled, IsPieceUnsettled, IsPieceComplete, SettlesPiece}
use Rattle.holdings.proofs.Passing.{passed-to, passed-more}
use Rattle.holdings.proofs.holdings.Holdings.settle_next.Given.{Over}
use Rattle.holdings.proofs.holdings.Holdings.settle_next.Goals as goal
use Rattle.holdings.proofs.holdings.Holdings.settle_next.Goals.{In-Some}

-- of the pieces before the one that was found nothing can be settled
module _ (g : Over) (c : In-Some g) where
  from : c.args.pieces.now.from ≤ c.in-Some.first
  from = let before = c.pieces.invariant.from in let more = c.in-Some.ensures.inside.0 in omega (arith, before, more)

  passed : AreUnsettled c.args.session.now c.args.self.now c.args.pieces.now c.in-Some.first
  passed = passed-to c.args.session.now c.args.self.now c.args.pieces.now c.self.inside.pieces c.self.inside.most c.self.inside.clock
      (c.self.view_is ∙ c.pieces.invariant.holdings) c.pieces.from c.in-Some.first c.pieces.invariant.passed c.in-Some.ensures.passed

pub returns-in-Err-clause-no_memory : goal.returns-in-Err-clause-no_memory
returns-in-Err-clause-no_memory g c =
    let s = (goal.at.returns-in-Err-clause-no_memory g c).In-Some in
    let first = c.in-Some.first in
    record {
      first = first;
      from = from g s;
      end = c.in-Some.ensures.inside.1;
      passed = passed g s;
      complete = subst₂ (λ (S : SessionSeen) (h : HoldingsSeen). IsPieceComplete S h c.args.pieces.now.tree first)
          c.pieces.invariant.session c.pieces.invariant.holdings c.in-Err.ensures.no_memory;
      next = ap (λ (x : Pieces). record x { from = first + 1 }) c.pieces.invariant.pieces;
    }

pub returns-in-Ok-Some-clause-settled : goal.returns-in-Ok-Some-clause-settled
returns-in-Ok-Some-clause-settled g c =
    let s = (goal.at.returns-in-Ok-Some-clause-settled g c).In-Some in
    let given : SettlesPiece c.pieces.session c.pieces.self c.args.pieces.now.tree c.in-Some.first c.in-Ok-Some.settled c.settle_piece.new.session
    c.settle_piece.new.self = rw c.in-Ok-Some.field-0-is at c.in-Ok-Some.ensures.settled in
    record {
      first = c.in-Some.first;
      from = from g s;
      end = c.in-Some.ensures.inside.1;
      passed = passed g s;
      settles = subst₂ (λ (S : SessionSeen) (h : HoldingsSeen). SettlesPiece S h c.args.pieces.now.tree c.in-Some.first c.in-Ok-Some.settled
          c.settle_piece.new.session c.settle_piece.new.self) c.pieces.invariant.session c.pieces.invariant.holdings given;
      next = ap (λ (x : Pieces). record x { from = c.in-Some.first }) c.pieces.invariant.pieces;
    }

pub pieces-preserved : goal.pieces-preserved
pieces-preserved g c =
    let inv = c.pieces.invariant in
    let p : Pieces = c.args.pieces.now in
    let given : IsPieceUnsettled c.pieces.session c.pieces.self p.tree c.in-Some.first = rw c.in-Ok-None.field-0-is at c.in-Ok-None.ensures.unsettled in
    record {
      session = (rw c.in-Ok-None.field-0-is at c.in-Ok-None.ensures.same_session) ∙ inv.session;
      holdings = (rw c.in-Ok-None.field-0-is at c.in-Ok-None.ensures.same_holdings) ∙ inv.holdings;
      pieces = inv.pieces;
      from = let before = from g (goal.at.pieces-preserved g c).In-Some in omega (arith, before);
      passed = passed-more c.args.session.now c.args.self.now p c.self.inside.pieces c.self.inside.most c.self.inside.clock (c.self.view_is ∙ inv.holdings)
          c.pieces.from c.in-Some.first inv.passed c.in-Some.ensures.passed
          (subst₂ (λ (S : SessionSeen) (h : HoldingsSeen). IsPieceUnsettled S h p.tree c.in-Some.first) inv.session inv.holdings given);
    }

pub returns-clause-unsettled : goal.returns-clause-unsettled
returns-clause-unsettled g c =
    let inv = c.pieces.invariant in
    passed-to c.args.session.now c.args.self.now c.args.pieces.now c.self.inside.pieces c.self.inside.most c.self.inside.clock
    (c.self.view_is ∙ inv.holdings) c.pieces.from c.args.pieces.now.end inv.passed (rw c.in_default.is at c.next_key.ensures.none)
