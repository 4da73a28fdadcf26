use Rattle.filetree.proofs.Paths.{walks_are_all}
use Rattle.filetree.proofs.laws.walks_are_all.Goals as goal

pub returns : goal.returns
returns c = walks_are_all
