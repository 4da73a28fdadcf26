use Rattle.short_pushes.proofs.Rows.{settled_none, still}
use Rattle.short_pushes.proofs.row_check.RowCheck.settle.Goals as goal

pub returns-then-complete-clause-settled : goal.returns-then-complete-clause-settled
returns-then-complete-clause-settled c = settled_none c.hand_on.new.self c.hand_on.ensures.none

pub returns-else-complete-clause-content : goal.returns-else-complete-clause-content
returns-else-complete-clause-content c = still c.args.self.now c.args.good.now
