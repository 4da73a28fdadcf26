use Rattle.std.proofs.Common.{ap}
use Rattle.partial_tree.specs.Evidence.{claimed_by}
use Rattle.partial_tree.proofs.Found.{all-found}
use Rattle.partial_tree.proofs.message.comparing.find_new.Goals as goal

pub returns-clause-found : goal.returns-clause-found
returns-clause-found g c =
    all-found (λ v. (g.N.NodeMap.seen v.map.now).known) (λ v. v.found) _ (λ v d w is. (ap (λ m. (g.N.NodeMap.seen m).known) is.0, is.1))
    (claimed_by c.args.evidence.now) _ _ _ c.in_ok-fold.ensures.visited (record { complete = c.new-found.ensures.complete; none = c.new-found.ensures.claims })
