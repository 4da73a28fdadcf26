use Rattle.std.proofs.Common.{sym, subst}
use Rattle.holdings.specs.Settling.{AreTried}
use Rattle.holdings.proofs.settling.join.Goals as goal

pub returns-in-Ok-clause-taken : goal.returns-in-Ok-clause-taken
returns-in-Ok-clause-taken g c = record {
  complete = c.requires.complete;
  leaves = c.deref.result.now;
  tried = subst (AreTried c.args.session.now c.args.piece.tree c.args.piece.first c.args.piece.size c.args.cells.now) (sym c.deref.ensures.value)
      c.in_ok-leaves.ensures;
  count = c.in-Ok.field-0;
  taken = c.in-Ok.ensures.taken;
  known = c.in-Ok.ensures.known;
  pads = c.in-Ok.ensures.end_pads;
}
