use Rattle.partial_tree.proofs.WholeLayers.{fill-closed}
use Rattle.tree_laws.proofs.laws.filled_stays_closed.Goals as goal

pub returns : goal.returns
returns c = λ t K l hashes closed all ok. fill-closed t K l hashes ok.layer_inside ok.right_count closed all ok.agrees
