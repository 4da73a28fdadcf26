use Rattle.std.proofs.Common.{refl, sym, ◌∙◌}
use Rattle.session.proofs.SessionCalls.{refused_at}
use Rattle.session.proofs.session.SessionOf.mark_block.Goals as goal

pub returns-in-Err-clause-refused : goal.returns-in-Err-clause-refused
returns-in-Err-clause-refused g c = (
  refused_at c.args.self.now c.args.index c.args.begin c.in-Some.file c.in-Some.number c.args.block.now c.in-Err.refusal c.in-Some.ensures.found.at
      c.in-Err.ensures.refused.0,
  c.in-Err.ensures.refused.1,
)

pub mark_in_file-requires-clause-block : goal.mark_in_file-requires-clause-block
mark_in_file-requires-clause-block g c = let e = c.in-Some.ensures.found.in_tree in (e.entry, e.there, e.low)

pub returns-in_default-clause-refused : goal.returns-in_default-clause-refused
returns-in_default-clause-refused g c = (sym c.block_at.ensures.value ∙ c.in_default.is, refl)
