use Rattle.std.proofs.Common.{ℕ, ◌-◌, ◌<◌, ◌≤◌, IsSome}
use Rattle.holdings.specs.Cells.{tried_leaf}
use Rattle.holdings.proofs.settling.has_all.Given as goal

-- each of the last blocks so far is held or known
abbrev pub invariant-each : goal.invariant-each
invariant-each g l = (j : ℕ) → l.piece.size - l.behind ≤ j → j < l.piece.size
    → IsSome (tried_leaf l.session l.piece.tree l.piece.first l.cells j)
