use Rattle.std.proofs.Common.{◌≡◌, subst, rules}
use Rattle.opening.specs.Description.{Description}
use Rattle.opening.specs.Sound.{IsSound}
use Rattle.opening.specs.Trees.{tree_with_root}
use Rattle.opening.proofs.Rooting.{tree_found, tree_only}
use Rattle.opening.proofs.torrent.Torrent.tree_with_root.Goals as goal

pub returns-clause-found : goal.returns-clause-found
returns-clause-found c =
    let value : c.copied.result ≡ tree_with_root c.args.self.now.trees c.args.root.now = search rules in
    tree_found c.args.self.now.trees c.args.root.now c.copied.result value

pub returns-clause-only : goal.returns-clause-only
returns-clause-only c =
    let value : c.copied.result ≡ tree_with_root c.args.self.now.trees c.args.root.now = search rules in
    let sound : IsSound c.args.self.now = subst (λ (d : Description). IsSound d) c.self.view_is c.self.invariant.0 in
    tree_only c.args.self.now.trees c.args.root.now c.copied.result sound.roots_differ value
