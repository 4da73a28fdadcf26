-- The folders on the way to a file, each of which keeps those above it. Public clauses do not name
-- these.
use Rattle.std.specs.Prelude.{ℕ, List, [], ◌∷◌, ◌++◌, Option, None, Some}
use Rattle.std.specs.declared.alloc.Global.{Global}
use Rattle.std.specs.declared.sync.Arc.{Arc}
use Rattle.filetree.specs.declared.folder.TreeFolder.{TreeFolder, TreeFolder', Held-TreeFolder-above, None', Some'}

abbrev mutual
  pub names_to : TreeFolder → List (List ℕ)
  names_to (TreeFolder' above name) = names_above above ++ name ∷ []

  pub names_above : Held-TreeFolder-above → List (List ℕ)
  names_above None' = []
  names_above (Some' p f) = names_to f

abbrev pub names_of : Option (Arc TreeFolder Global) → List (List ℕ)
names_of None = []
names_of (Some f) = names_to f.value
