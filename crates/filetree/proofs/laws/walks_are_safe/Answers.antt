use Rattle.filetree.proofs.Safe.{walks_are_safe}
use Rattle.filetree.proofs.laws.walks_are_safe.Goals as goal

pub returns : goal.returns
returns c = walks_are_safe
