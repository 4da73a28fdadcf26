use Rattle.std.proofs.Common.{◌≤◌, ◌∙◌, sym, subst, rules}
use Rattle.node_maps.specs.Known.{Known, look}
use Rattle.node_maps.proofs.Nodes.{known-of, length-of, marked-of}
use Rattle.partial_tree.specs.Joins.{Joins}
use Rattle.partial_tree.specs.Evidence.{claimed_by, FindsClaims}
use Rattle.partial_tree.proofs.Tracing.{on_ok, found-agreed, new_if_noted, nothing-joins}
use Rattle.partial_tree.proofs.Uncles.{leads-up}
use Rattle.partial_tree.proofs.message.storing.store.Goals as goal

pub find_new-requires : goal.find_new-requires
find_new-requires g c = record {
  leads = leads-up _ c.args.evidence.now c.args.layer c.args.index c.requires.low c.requires.inside c.requires.place c.requires.leads;
}

pub returns-then-is_empty-clause-stored : goal.returns-then-is_empty-clause-stored
returns-then-is_empty-clause-stored g c =
    nothing-joins (claimed_by c.args.evidence.now) (g.N.NodeMap.seen c.args.map.now).known c.in-Some.found c.in-Some.ensures.found
    (c.is_empty.ensures.0 c.if-is_empty.true)

pub returns-then-is_err-clause-refused : goal.returns-then-is_err-clause-refused
returns-then-is_err-clause-refused g c = (
  (
    found-agreed _ (claimed_by c.args.evidence.now) c.in-Some.found c.in-Some.ensures.found,
    new_if_noted _ _ c.in-Some.found c.is_empty.result c.is_empty.ensures c.if-is_empty.false c.in-Some.ensures.found.notes_new,
  ),
  c.trim.ensures.seen ∙ c.reserve_claimed.ensures.seen,
)

pub put_found-gained-requires-clause-leads : goal.put_found-gained-requires-clause-leads
put_found-gained-requires-clause-leads g c =
    leads-up _ c.args.evidence.now c.args.layer c.args.index c.requires.low c.requires.inside c.requires.place c.requires.leads

pub put_found-gained-requires-clause-room : goal.put_found-gained-requires-clause-room
put_found-gained-requires-clause-room g c = on_ok c.reserve_claimed.result _ c.reserve_claimed.ensures.room (sym c.is_err.ensures.value ∙ c.if-is_err.false)

pub put_found-gained-requires-clause-found : goal.put_found-gained-requires-clause-found
put_found-gained-requires-clause-found g c =
    subst (λ (m : Known). FindsClaims (look m) (claimed_by c.args.evidence.now) c.in-Some.found) (sym (known-of c.reserve_claimed.ensures.seen))
    c.in-Some.ensures.found

pub returns-clause-stored : goal.returns-clause-stored
returns-clause-stored g c =
    subst (λ (m : Known). Joins (claimed_by c.args.evidence.now) (g.N.NodeMap.seen c.args.map.now).known m c.put_found-gained.result)
    (sym (known-of c.trim-2.ensures.seen))
    (subst (λ (m : Known). Joins (claimed_by c.args.evidence.now) m (g.N.NodeMap.seen c.put_found-gained.new.map).known c.put_found-gained.result)
    (known-of c.reserve_claimed.ensures.seen) c.put_found-gained.ensures.stored)

pub returns-clause-stays : goal.returns-clause-stays
returns-clause-stays g c = record {
  length = length-of c.trim-2.ensures.seen ∙ c.put_found-gained.ensures.stays.length ∙ length-of c.reserve_claimed.ensures.seen;
  marked = marked-of c.trim-2.ensures.seen ∙ c.put_found-gained.ensures.stays.marked ∙ marked-of c.reserve_claimed.ensures.seen;
}
