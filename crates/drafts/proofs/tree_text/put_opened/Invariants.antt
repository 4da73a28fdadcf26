use Rattle.std.proofs.Common.{drop, map}
use Rattle.std.specs.String.{string_bytes}
use Rattle.drafts.specs.TreeText.{opened}
use Rattle.drafts.proofs.Penned.{SoFar}
use Rattle.drafts.proofs.tree_text.put_opened.Given as goal

abbrev pub invariant-names : goal.invariant-names
invariant-names g l = SoFar l.fn.pen (g.W.Sink.seen l.fn.w) l.pen (g.W.Sink.seen l.w) (opened (map string_bytes l.names))
    (opened (map string_bytes (drop l.name-index l.names)))
