use Rattle.std.proofs.Common.{◌≡◌, ◌+◌, ◌*◌, ◌%◌, ◌^◌, ◌<◌, IfOk, IfErr, sym, subst, arith}
use Rattle.std.proofs.lemmas.Nat.{one_shl}
use Rattle.hashtree.specs.Tree.{block_count}
use Rattle.node_maps.specs.Known.{look}
use Rattle.node_maps.specs.Places.{PartialTree}
use Rattle.partial_tree.specs.Claims.{joined}
use Rattle.partial_tree.specs.EndPads.{end_pads}
use Rattle.partial_tree.specs.Evidence.{claimed_by, EndFault}
use Rattle.partial_tree.specs.Joins.{Joins}
use Rattle.partial_tree.specs.LeafRows.{row_pads}
use Rattle.partial_tree.proofs.RowPads.{pads-come, nothing-more, faults-first}
use Rattle.partial_tree.proofs.message.row_storing.store_row.Given.{Over}
use Rattle.partial_tree.proofs.message.row_storing.store_row.Goals as goal
use Rattle.partial_tree.proofs.message.row_storing.store_row.Goals.{After-store_to_end}

-- the row reaches the file's end, so its pads are all that stand beside it
pads : (g : Over) (c : After-store_to_end g) → row_pads c.args.shape c.args.evidence.now.index c.args.evidence.now.span ≡ end_pads c.args.shape
pads g c =
    let e = c.args.evidence.now in
    let wide : 1 * 2 ^ e.span % 2 ^ 64 ≡ 2 ^ e.span = one_shl e.span 64 (omega (arith, c.requires.inside.span)) in
    pads-come c.args.shape e.index e.span (omega (arith, wide, c.if-evidence-blocks.false, c.blocks-2.ensures.value))

pub returns-then-evidence-blocks-clause-stored : goal.returns-then-evidence-blocks-clause-stored
returns-then-evidence-blocks-clause-stored g c =
    let e = c.args.evidence.now in
    let width : 1 * 2 ^ e.span % 2 ^ 64 ≡ 2 ^ e.span = one_shl e.span 64 (omega (arith, c.requires.inside.span)) in
    let short : e.index + 2 ^ e.span < block_count c.args.shape = omega (arith, width, c.if-evidence-blocks.true, c.blocks-2.ensures.value) in
    subst (λ (C : PartialTree). IfOk c.store.result (λ n. Joins C (g.N.NodeMap.seen c.args.map.now).known (g.N.NodeMap.seen c.store.new.map).known n))
    (sym (nothing-more c.args.shape e.index e.span short (claimed_by e))) c.store.ensures.stored

pub returns-then-evidence-blocks-clause-refused : goal.returns-then-evidence-blocks-clause-refused
returns-then-evidence-blocks-clause-refused g c =
    let e = c.args.evidence.now in
    faults-first (look (g.N.NodeMap.seen c.args.map.now).known) (claimed_by e) (row_pads c.args.shape e.index e.span) c.store.result
    (g.N.NodeMap.seen c.store.new.map) (g.N.NodeMap.seen c.args.map.now) c.store.ensures.refused

pub returns-else-evidence-blocks-clause-stored : goal.returns-else-evidence-blocks-clause-stored
returns-else-evidence-blocks-clause-stored g c =
    subst (λ (P : PartialTree). IfOk c.store_to_end.result (λ n. Joins (joined (claimed_by c.args.evidence.now) P) (g.N.NodeMap.seen c.args.map.now).known
    (g.N.NodeMap.seen c.store_to_end.new.map).known n))
    (sym (pads g (goal.at.returns-else-evidence-blocks-clause-stored g c).After-store_to_end)) c.store_to_end.ensures.stored

pub returns-else-evidence-blocks-clause-refused : goal.returns-else-evidence-blocks-clause-refused
returns-else-evidence-blocks-clause-refused g c =
    subst (λ (P : PartialTree). IfErr c.store_to_end.result (λ r. EndFault (look (g.N.NodeMap.seen c.args.map.now).known) (claimed_by c.args.evidence.now) P r
    × (g.N.NodeMap.seen c.store_to_end.new.map ≡ g.N.NodeMap.seen c.args.map.now)))
    (sym (pads g (goal.at.returns-else-evidence-blocks-clause-refused g c).After-store_to_end)) c.store_to_end.ensures.refused
