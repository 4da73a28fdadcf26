use Rattle.std.proofs.Common.{ap, ◌∙◌}
use Rattle.std.specs.FinSet as set
use Rattle.session.proofs.OpenAsks.{kept_removed}
use Rattle.session.proofs.open_asks.OpenAsks.remove.Goals as goal

pub returns : goal.returns
returns c =
    kept_removed c.self.inside.asks.keys c.remove.new.self.keys c.args.ask.now c.remove.ensures.updates.0 ∙ ap (λ s. set.remove s c.args.ask.now) c.self.view_is
