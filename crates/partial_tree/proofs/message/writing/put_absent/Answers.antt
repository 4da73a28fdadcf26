use Rattle.std.proofs.Common.{sym, ap, ◌∙◌}
use Rattle.std.specs.FinMap.{len}
use Rattle.node_maps.proofs.Nodes.{known-of}
use Rattle.partial_tree.proofs.Noting.{len-new}
use Rattle.partial_tree.proofs.message.writing.put_absent.Goals as goal

pub returns-clause-gained : goal.returns-clause-gained
returns-clause-gained g c =
    ap len (known-of c.put.ensures.seen) ∙ len-new (g.N.NodeMap.seen c.args.map.now).known c.args.claim.now c.get.result c.get.ensures (sym c.is_some.ensures
    ∙ c.if-is_some.false)
