use Rattle.std.proofs.Common.{◌≡◌, true, ap, ◌∙◌}
use Rattle.std.specs.FinSet as finite
use Rattle.session.specs.Asks.{AskSet}
use Rattle.session.specs.Layouts.{SessionSeen, seen}
use Rattle.session.proofs.OpenAsks.{unchanged_if_open}
use Rattle.session.proofs.session.SessionOf.note.Goals as goal

pub returns-clause-open_already : goal.returns-clause-open_already
returns-clause-open_already g c = λ was_open.
    let here : finite.contains c.self.inside.asks c.args.ask.now ≡ true = ap (λ (v : SessionSeen). finite.contains v.asks c.args.ask.now) c.self.view_is
    ∙ was_open in
    let same : c.insert.new.self ≡ c.self.inside.asks =
    unchanged_if_open c.self.inside.asks c.insert.new.self c.args.ask.now c.insert.result here c.insert.ensures.no_memory c.insert.ensures.opened in
    ap (λ (o : AskSet). seen (g.T.HoldsTorrent.described c.self.inside.torrent) o c.self.inside.trees.items) same ∙ c.self.view_is
