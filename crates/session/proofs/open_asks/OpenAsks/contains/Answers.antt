use Rattle.std.proofs.Common.{sym, ap, ◌∙◌}
use Rattle.std.specs.FinSet as set
use Rattle.session.proofs.OpenAsks.{kept_contains}
use Rattle.session.proofs.open_asks.OpenAsks.contains.Goals as goal

pub returns : goal.returns
returns c = c.contains.ensures ∙ sym (kept_contains c.self.inside.asks.keys c.args.ask.now) ∙ ap (λ s. set.contains s c.args.ask.now) c.self.view_is
