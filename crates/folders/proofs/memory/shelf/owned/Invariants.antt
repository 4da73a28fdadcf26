use Rattle.std.proofs.Common.{◌≡◌, map, take}
use Rattle.folders.specs.Shelf.{path_bytes}
use Rattle.folders.proofs.memory.shelf.owned.Given as goal

abbrev pub invariant-parts : goal.invariant-parts
invariant-parts l = path_bytes l.owned ≡ map (λ s. s.now) (take l.part-index l.path)
