use Rattle.std.proofs.Common.{◌≡◌, ◌++◌, length, drop, replicate, None}
use Rattle.holdings.proofs.settling.clear.Given as goal

-- nothing is held of the blocks so far
abbrev pub invariant-each : goal.invariant-each
invariant-each l = l.cells ≡ replicate l.block None ++ drop l.block l.fn.cells
