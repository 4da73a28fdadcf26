use Rattle.std.proofs.Common.{drop, map}
use Rattle.std.specs.List.{concat}
use Rattle.drafts.specs.DraftSeen.{outline_file}
use Rattle.drafts.specs.Written.{digests_of}
use Rattle.drafts.proofs.Penned.{SoFar}
use Rattle.drafts.proofs.hybrid_text.put_digests.Given as goal

abbrev pub invariant-files : goal.invariant-files
invariant-files g l =
    SoFar l.fn.pen (g.W.Sink.seen l.fn.w) l.pen (g.W.Sink.seen l.w) (concat (digests_of (map outline_file l.files)))
    (concat (digests_of (map outline_file (drop l.i l.files))))
