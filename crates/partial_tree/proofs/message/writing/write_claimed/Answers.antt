use Rattle.std.proofs.Common.{◌≡◌, rules, refl, sym, ap, subst}
use Rattle.partial_tree.specs.Evidence.{claimed_by}
use Rattle.partial_tree.specs.Stores.{Stores}
use Rattle.partial_tree.proofs.Stored.{all-stored}
use Rattle.partial_tree.proofs.Visits.{never-stopped, run-keeps}
use Rattle.partial_tree.proofs.message.writing.write_claimed.Goals as goal

pub returns : goal.returns
returns g c =
    let all = never-stopped c.fold.result _ _ c.fold.ensures.visited c.fold.ensures.stopped (λ s. s.2) in
    let same = run-keeps _ (λ w. w.map.ghost_name) (λ v d w is. is.0) _ _ _ all.run in
    let now : c.map-1.given.0 ≡ c.fold.new.visitor.map.now = search rules in
    subst (λ m. Stores g.N.NodeMap.seen g.N.NodeMap.held g.N.NodeMap.has_room (claimed_by c.args.evidence.now) c.args.map.now m c.fold.new.visitor.gained)
    (sym now) (all-stored g.N.NodeMap.seen g.N.NodeMap.held g.N.NodeMap.has_room (λ w. w.map.now) (λ w. w.gained) _ (λ v d w is. is.1)
    (claimed_by c.args.evidence.now) _ _ all refl)
