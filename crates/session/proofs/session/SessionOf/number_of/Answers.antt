use Rattle.std.proofs.Common.{subst}
use Rattle.session.proofs.Numbering.{IsFound, IsOnly, found_within}
use Rattle.session.proofs.session.SessionOf.number_of.Goals as goal

pub returns-clause-found : goal.returns-clause-found
returns-clause-found g c = subst (IsFound c.args.root.now c.tree_with_root.result) c.lent_torrent.ensures c.tree_with_root.ensures.found

pub returns-clause-within : goal.returns-clause-within
returns-clause-within g c =
    found_within c.args.self.now.torrent c.args.root.now c.tree_with_root.result
    (subst (IsFound c.args.root.now c.tree_with_root.result) c.lent_torrent.ensures c.tree_with_root.ensures.found)

pub returns-clause-only : goal.returns-clause-only
returns-clause-only g c = subst (IsOnly c.args.root.now c.tree_with_root.result) c.lent_torrent.ensures c.tree_with_root.ensures.only
