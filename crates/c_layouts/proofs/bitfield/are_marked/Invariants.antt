use Rattle.std.proofs.Common.{◌≡◌, Some}
use Rattle.std.specs.Prelude.{slice_get}
use Rattle.session.specs.Session.{TreeState}
use Rattle.c_layouts.specs.Marks.{AreLeavesMarked}
use Rattle.c_layouts.proofs.bitfield.are_marked.Given as goal

abbrev pub invariant-leaves : goal.invariant-leaves
invariant-leaves l = (s : TreeState) → slice_get l.session.trees l.tree ≡ Some s → AreLeavesMarked s l.from l.block
