use Rattle.drafts.specs.Pen.{Put}
use Rattle.drafts.specs.TreeText.{closed}
use Rattle.drafts.proofs.tree_text.put_ends.Given as goal

abbrev pub invariant-ends : goal.invariant-ends
invariant-ends g l = Put l.fn.pen (g.W.Sink.seen l.fn.w) l.pen (g.W.Sink.seen l.w) (closed l.counter)
