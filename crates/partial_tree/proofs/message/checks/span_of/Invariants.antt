use Rattle.std.proofs.Common.{◌≢◌, ℕ, ◌^◌, ◌<◌, ◌≤◌}
use Rattle.partial_tree.proofs.message.checks.span_of.Given as goal

-- none so far
abbrev pub invariant-loop-span : goal.invariant-loop-span
invariant-loop-span l = (k : ℕ) → 1 ≤ k → k < l.span → 2 ^ k ≢ l.length
