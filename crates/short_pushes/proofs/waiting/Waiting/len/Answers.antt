use Rattle.std.proofs.Common.{sym}
use Rattle.short_pushes.proofs.Held.{held_count}
use Rattle.short_pushes.proofs.waiting.Waiting.len.Goals as goal

pub returns-clause-value : goal.returns-clause-value
returns-clause-value c = sym (held_count c.args.self.now)
