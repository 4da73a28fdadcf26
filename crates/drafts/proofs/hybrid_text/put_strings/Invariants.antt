use Rattle.std.proofs.Common.{drop, map}
use Rattle.std.specs.String.{string_bytes}
use Rattle.benc.specs.Text.{items_spelling}
use Rattle.drafts.specs.Written.{texts_value}
use Rattle.drafts.proofs.Penned.{SoFar}
use Rattle.drafts.proofs.hybrid_text.put_strings.Given as goal

abbrev pub invariant-parts : goal.invariant-parts
invariant-parts g l =
    SoFar l.fn.pen (g.W.Sink.seen l.fn.w) l.pen (g.W.Sink.seen l.w) (items_spelling (texts_value (map string_bytes l.parts)))
    (items_spelling (texts_value (map string_bytes (drop l.part-index l.parts))))
