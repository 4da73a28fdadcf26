use Rattle.std.proofs.Common.{◌≡◌, ◌++◌, take}
use Rattle.std.specs.List.{flat_map}
use Rattle.gathering.proofs.part_digests.put_cuts.Given as goal

abbrev pub invariant-cuts : goal.invariant-cuts
invariant-cuts l = l.text.items ≡ l.fn.text.items ++ flat_map (λ x. x) (take l.cut-index l.found.v1.cuts.items)
