use Rattle.std.proofs.Common.{ap, ◌∙◌, ◌+◌}
use Rattle.std.specs.FinMap.{len}
use Rattle.node_maps.specs.Known.{look}
use Rattle.node_maps.proofs.Nodes.{known-of}
use Rattle.partial_tree.proofs.AddedRows.{len-absent}
use Rattle.partial_tree.proofs.growing.adding.add.Goals as goal

pub returns-clause-one : goal.returns-clause-one
returns-clause-one g c =
    ap len (known-of c.put.ensures.seen)
    ∙ len-absent (g.N.NodeMap.seen c.reserve.new.self).known c.args.layer c.args.index c.args.hash
    (ap (λ m. look m c.args.layer c.args.index) (known-of c.reserve.ensures.seen) ∙ c.requires.absent)
    ∙ ap (λ m. len m + 1) (known-of c.reserve.ensures.seen)
