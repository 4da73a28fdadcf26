use Rattle.filetree.proofs.Components.{bad_path_is}
use Rattle.filetree.proofs.laws.bad_path_is_bad_component.Goals as goal

pub returns : goal.returns
returns c = bad_path_is
