use Rattle.std.proofs.Common.{ℕ, ◌<◌, ◌≤◌}
use Rattle.session.specs.Session.{IsAnswered}
use Rattle.session_exports.specs.Exports.{leaves_ask}
use Rattle.session_exports.proofs.ranges.range_at.Given as goal

-- no wider range is known
abbrev pub invariant-spans : goal.invariant-spans
invariant-spans g l = record {
  few : l.span ≤ 9;
  wider : (j : ℕ) → l.span < j → j ≤ 9 → ¬ IsAnswered l.fn.session (leaves_ask l.root l.height l.fn.block j);
}

abbrev pub decreases-spans : goal.decreases-spans
decreases-spans g l = l.span
