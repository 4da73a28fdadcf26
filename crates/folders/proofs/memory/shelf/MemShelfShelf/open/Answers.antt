use Rattle.std.proofs.Common.{◌∙◌, ap, sym, option_map}
use Rattle.folders.proofs.MemCalls.{opened_as, same_calls}
use Rattle.folders.specs.MemShelfCalls.{seen_of}
use Rattle.folders.proofs.memory.shelf.MemShelfShelf.open.Goals as goal

pub returns-in-Some-clause-opens : goal.returns-in-Some-clause-opens
returns-in-Some-clause-opens c = (
  c.in_ok-next.ensures.fails.0,
  opened_as _ c.in-Some.file.now c.args.self.now.at_most c.source.result (sym c.find.ensures ∙ ap (option_map (λ f. f.now)) c.in-Some.is) c.source.ensures,
  same_calls (seen_of c.args.self.now) _ _ _ _ _ c.in_ok-next.ensures.later c.in_ok-next.ensures.counts,
)
