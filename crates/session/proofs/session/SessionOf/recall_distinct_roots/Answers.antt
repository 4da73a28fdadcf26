use Rattle.std.proofs.Common.{subst}
use Rattle.opening.specs.Sound.{IsSound}
use Rattle.session.specs.Session.{HasDistinctRoots}
use Rattle.session.specs.Layouts.{SessionSeen}
use Rattle.session.proofs.Sessions.{distinct}
use Rattle.session.proofs.session.SessionOf.recall_distinct_roots.Goals as goal

pub returns : goal.returns
returns g c =
    subst (λ (v : SessionSeen). HasDistinctRoots v) c.self.view_is
    (distinct (g.T.HoldsTorrent.described c.self.inside.torrent) c.self.inside.trees.items c.self.invariant
    (subst IsSound c.lend.ensures c.recall_sound.ensures) c.self.inside.asks)
