use Rattle.partial_tree.proofs.Joining.{joined-closed, joined-keeps}
use Rattle.tree_laws.proofs.laws.joined_stays_closed.Goals as goal

pub returns : goal.returns
returns c = record { closed = joined-closed; keeps = joined-keeps }
