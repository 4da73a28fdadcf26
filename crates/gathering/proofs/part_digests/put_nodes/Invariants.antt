use Rattle.std.proofs.Common.{◌≡◌, ◌++◌, take}
use Rattle.std.specs.List.{flat_map}
use Rattle.gathering.proofs.part_digests.put_nodes.Given as goal

abbrev pub invariant-nodes : goal.invariant-nodes
invariant-nodes l = l.text.items ≡ l.fn.text.items ++ flat_map (λ x. x) (take l.node-index l.found.layer.items)
