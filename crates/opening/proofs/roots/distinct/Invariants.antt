use Rattle.std.proofs.Common.{take}
use Rattle.opening.specs.Rooted.{AreRoots}
use Rattle.opening.proofs.roots.distinct.Given as goal

abbrev pub invariant-files : goal.invariant-files
invariant-files l = AreRoots (take l.file-index l.files) l.roots
