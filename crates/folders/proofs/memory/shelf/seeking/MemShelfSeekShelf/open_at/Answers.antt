use Rattle.std.proofs.Common.{◌∙◌, ap, sym, option_map}
use Rattle.folders.proofs.MemCalls.{same_calls}
use Rattle.folders.proofs.MemSeeking.{opened_from}
use Rattle.folders.specs.MemShelfCalls.{seen_of}
use Rattle.folders.proofs.memory.shelf.seeking.MemShelfSeekShelf.open_at.Goals as goal

pub returns-in-Some-clause-opens : goal.returns-in-Some-clause-opens
returns-in-Some-clause-opens c = (
  c.in_ok-next.ensures.fails.0,
  opened_from c.args.offset _ c.in-Some.file.now c.from_byte.result c.args.self.now.at_most c.source.result
      (sym c.find.ensures ∙ ap (option_map (λ f. f.now)) c.in-Some.is)
      c.from_byte.ensures.content c.from_byte.ensures.fails c.source.ensures,
  same_calls (seen_of c.args.self.now) _ _ _ _ _ c.in_ok-next.ensures.later c.in_ok-next.ensures.counts,
)
