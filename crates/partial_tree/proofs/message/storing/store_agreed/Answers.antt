use Rattle.std.proofs.Common.{◌∙◌, sym, ap, subst}
use Rattle.node_maps.specs.Known.{Known, look}
use Rattle.node_maps.proofs.Nodes.{known-of}
use Rattle.partial_tree.specs.Claims.{IsAgreed}
use Rattle.partial_tree.specs.Joins.{Joins}
use Rattle.partial_tree.specs.Evidence.{claimed_by}
use Rattle.partial_tree.proofs.Uncles.{leads-up}
use Rattle.partial_tree.proofs.message.storing.store_agreed.Goals as goal

pub write_claimed-gained-requires-clause-leads : goal.write_claimed-gained-requires-clause-leads
write_claimed-gained-requires-clause-leads g c =
    leads-up _ c.args.evidence.now c.args.layer c.args.index c.requires.low c.requires.inside c.requires.place c.requires.leads

pub returns-clause-stored : goal.returns-clause-stored
returns-clause-stored g c =
    let before : Known = (g.N.NodeMap.seen c.args.map.now).known in
    let after : Known = (g.N.NodeMap.seen c.write_claimed-gained.new.map).known in
    let same = known-of c.reserve_claimed.ensures.seen in
    subst (λ (m : Known). Joins (claimed_by c.args.evidence.now) before m c.write_claimed-gained.result) (sym (known-of c.trim-2.ensures.seen))
    (subst (λ (m : Known). Joins (claimed_by c.args.evidence.now) m after c.write_claimed-gained.result) same
    (c.write_claimed-gained.ensures.joins (subst (λ (m : Known). IsAgreed (look m) (claimed_by c.args.evidence.now)) (sym same) c.requires.agreed)))
