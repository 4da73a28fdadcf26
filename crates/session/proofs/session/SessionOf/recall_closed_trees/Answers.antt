use Rattle.std.proofs.Common.{subst}
use Rattle.session.specs.Session.{HasClosedTrees}
use Rattle.session.specs.Layouts.{SessionSeen}
use Rattle.session.proofs.Sessions.{kept-closed}
use Rattle.session.proofs.session.SessionOf.recall_closed_trees.Goals as goal

pub returns : goal.returns
returns g c =
    subst (λ (v : SessionSeen). HasClosedTrees v) c.self.view_is (kept-closed (g.T.HoldsTorrent.described c.self.inside.torrent) c.self.inside.trees.items
    c.self.invariant
    c.self.inside.asks)
