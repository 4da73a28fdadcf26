use Rattle.session_exports.proofs.Order.{IsSearched}
use Rattle.session_exports.proofs.next.next_export.Given as goal

abbrev pub invariant-trees : goal.invariant-trees
invariant-trees g l = IsSearched l.session l.fn.point l.tree l.from
