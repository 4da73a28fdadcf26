use Rattle.tree_laws.proofs.Stored.{stored_or_collision}
use Rattle.tree_laws.proofs.laws.true_message_is_accepted.Goals as goal

pub returns : goal.returns
returns c = stored_or_collision
