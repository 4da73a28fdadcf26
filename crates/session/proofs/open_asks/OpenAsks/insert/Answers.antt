use Rattle.std.proofs.Common.{sym, ap, ◌∙◌}
use Rattle.std.specs.FinSet as set
use Rattle.std.proofs.lemmas.Bool.{false≢true}
use Rattle.session.proofs.OpenAsks.{kept_contains, kept_inserted}
use Rattle.session.proofs.open_asks.OpenAsks.insert.Goals as goal

pub returns-in_err-insert-clause-no_memory : goal.returns-in_err-insert-clause-no_memory
returns-in_err-insert-clause-no_memory c = λ open'.
    absurd (false≢true (sym c.in_err-insert.ensures.absent ∙ sym (kept_contains c.self.inside.asks.keys c.args.ask)
    ∙ ap (λ s. set.contains s c.args.ask) c.self.view_is ∙ open'))

pub returns-clause-opened : goal.returns-clause-opened
returns-clause-opened c =
    kept_inserted c.self.inside.asks.keys c.insert.new.self.keys c.args.ask c.in_ok-insert.ensures.updates.0 ∙ ap (λ s. set.insert s c.args.ask) c.self.view_is
