use Rattle.std.proofs.Common.{◌≡◌, ℕ, ◌<◌, None}
use Rattle.holdings.specs.Cells.{digest_in}
use Rattle.holdings.proofs.settling.first_held.Given as goal

-- nothing is held of the blocks so far
abbrev pub invariant-each : goal.invariant-each
invariant-each l = (i : ℕ) → i < l.block → digest_in l.cells i ≡ None
