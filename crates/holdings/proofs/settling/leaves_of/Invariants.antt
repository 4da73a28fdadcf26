use Rattle.std.proofs.Common.{◌≡◌, ℕ, ◌<◌, ◌≤◌, length, vec_len, vec_capacity}
use Rattle.std.specs.Prelude.{slice_get}
use Rattle.holdings.specs.Cells.{tried_leaf}
use Rattle.holdings.proofs.settling.leaves_of.Given as goal

-- the leaves of the blocks so far, and the rest has room
abbrev pub invariant-each : goal.invariant-each
invariant-each g l = record {
  count : length l.leaves.items ≡ l.block;
  stated : vec_len l.leaves ≡ l.block;
  each : (j : ℕ) → j < l.block → tried_leaf l.session l.piece.tree l.piece.first l.cells j ≡ slice_get l.leaves.items j;
  room : l.piece.size ≤ vec_capacity l.leaves;
}
