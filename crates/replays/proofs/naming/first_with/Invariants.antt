use Rattle.std.proofs.Common.{◌≡◌, ◌<◌, ℕ, Some}
use Rattle.std.specs.Prelude.{◌≢◌}
use Rattle.session.specs.Layouts.{tree_of}
use Rattle.replays.proofs.naming.first_with.Given as goal

-- no file so far has the tree
abbrev pub invariant-files : goal.invariant-files
invariant-files g l = (k : ℕ) → k < l.file → tree_of l.session k ≢ Some l.tree
