use Rattle.filetree.proofs.PathOrder.{order_is_apart}
use Rattle.filetree.proofs.laws.order_is_apart.Goals as goal

pub returns : goal.returns
returns c = order_is_apart
