use Rattle.partial_tree.proofs.Deciding.{accepted_or_refused}
use Rattle.tree_laws.proofs.laws.message_is_accepted_or_refused.Goals as goal

pub returns : goal.returns
returns c = accepted_or_refused
