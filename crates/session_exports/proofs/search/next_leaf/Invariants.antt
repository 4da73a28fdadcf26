use Rattle.std.proofs.Common.{◌-◌, ◌≤◌}
use Rattle.session_exports.specs.Exports.{AreLeavesUnknown}
use Rattle.session_exports.proofs.search.next_leaf.Given as goal

abbrev pub invariant-leaves : goal.invariant-leaves
invariant-leaves g l = record { later : l.from ≤ l.block; unknown : AreLeavesUnknown l.session l.tree l.from l.block }

abbrev pub decreases-leaves : goal.decreases-leaves
decreases-leaves g l = l.blocks - l.block
