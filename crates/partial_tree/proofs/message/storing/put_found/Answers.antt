use Rattle.std.proofs.Common.{◌∙◌, sym, ap, subst}
use Rattle.partial_tree.specs.Joins.{insert_new}
use Rattle.partial_tree.specs.Evidence.{claimed_by, AreClaims}
use Rattle.partial_tree.proofs.Tracing.{found-agreed, found-joins}
use Rattle.partial_tree.proofs.message.storing.put_found.Goals as goal

pub put_new-requires : goal.put_new-requires
put_new-requires g c =
    let claims = subst (AreClaims (claimed_by c.args.evidence.now)) (sym c.deref.ensures.value) c.requires.found.sound in
    λ k d in'. c.requires.room _ _ (_, claims k d in')

pub returns-clause-stored : goal.returns-clause-stored
returns-clause-stored g c =
    found-joins (claimed_by c.args.evidence.now) (g.N.NodeMap.seen c.args.map.now).known c.args.found.now c.put_new.result
    (g.N.NodeMap.seen c.put_new.new.map).known c.requires.found c.if-found.false
    (c.put_new.ensures.known ∙ ap (insert_new (g.N.NodeMap.seen c.args.map.now).known) c.deref.ensures.value)
    c.put_new.ensures.gained

pub returns-then-found-clause-stored : goal.returns-then-found-clause-stored
returns-then-found-clause-stored g c =
    c.write_claimed.ensures.joins (found-agreed _ (claimed_by c.args.evidence.now) c.args.found.now c.requires.found)
