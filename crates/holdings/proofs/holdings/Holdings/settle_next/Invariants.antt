use Rattle.std.proofs.Common.{◌≡◌, ◌-◌, ◌≤◌}
use Rattle.holdings.specs.Next.{AreUnsettled}
use Rattle.holdings.proofs.holdings.Holdings.settle_next.Given as goal

-- nothing can be settled of the pieces so far, and nothing has changed
abbrev pub invariant-pieces : goal.invariant-pieces
invariant-pieces g l = record {
  session : l.session ≡ l.fn.session;
  holdings : l.self ≡ l.fn.self;
  pieces : l.pieces ≡ l.fn.pieces;
  from : l.fn.pieces.from ≤ l.from;
  passed : AreUnsettled l.fn.session l.fn.self l.fn.pieces l.from;
}

-- the pieces that are left
abbrev pub decreases-pieces : goal.decreases-pieces
decreases-pieces g l = l.end - l.from
