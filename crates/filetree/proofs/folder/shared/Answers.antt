use Rattle.std.proofs.Common.{ap, sym, ◌∙◌}
use Rattle.filetree.specs.Folders.{names_to, names_of}
use Rattle.filetree.proofs.folder.shared.Goals as goal

pub returns-in_ok-clone-in-Some : goal.returns-in_ok-clone-in-Some
returns-in_ok-clone-in-Some c = ap names_to c.in_ok-clone-in-Some.ensures.cases ∙ ap names_of (sym c.in-Some.is)

pub returns-in-None : goal.returns-in-None
returns-in-None c = ap names_of (sym c.in-None.is)
