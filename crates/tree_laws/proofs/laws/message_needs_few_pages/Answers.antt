use Rattle.partial_tree.proofs.MessagePages.{message-few}
use Rattle.tree_laws.proofs.laws.message_needs_few_pages.Goals as goal

pub returns : goal.returns
returns c = message-few
