use Rattle.std.proofs.Common.{map, take}
use Rattle.folders.specs.MemShelf.{path_of}
use Rattle.folders.specs.Shelf.{IsEachOnce, path_bytes}
use Rattle.folders.proofs.memory.shelf.paths_of.Given as goal

abbrev pub invariant-files : goal.invariant-files
invariant-files l = IsEachOnce (map path_of (take l.i l.files)) (map path_bytes l.paths.items)
