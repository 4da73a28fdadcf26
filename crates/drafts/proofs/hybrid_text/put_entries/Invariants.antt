use Rattle.std.proofs.Common.{drop, map}
use Rattle.benc.specs.Text.{items_spelling}
use Rattle.drafts.specs.DraftSeen.{outline_file}
use Rattle.drafts.specs.Written.{entries_value}
use Rattle.drafts.proofs.Penned.{SoFar}
use Rattle.drafts.proofs.hybrid_text.put_entries.Given as goal

abbrev pub invariant-files : goal.invariant-files
invariant-files g l =
    SoFar l.fn.pen (g.W.Sink.seen l.fn.w) l.pen (g.W.Sink.seen l.w) (items_spelling (entries_value l.piece_length (map outline_file l.files)))
    (items_spelling (entries_value l.piece_length (map outline_file (drop l.i l.files))))
