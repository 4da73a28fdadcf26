use Rattle.tree_laws.proofs.Headline.{block_or_collision}
use Rattle.tree_laws.proofs.laws.known_leaf_names_block.Goals as goal

pub returns : goal.returns
returns c = λ t K f closed fits i inside. block_or_collision t K f closed fits i inside
