use Rattle.std.proofs.Common.{map}
use Rattle.drafts.specs.DraftSeen.{outline_file}
use Rattle.drafts.proofs.Contents.{IsContentEnd}
use Rattle.drafts.proofs.hybrid_text.content_end.Given as goal

abbrev pub invariant-files : goal.invariant-files
invariant-files l = IsContentEnd (map outline_file l.files) l.i l.end
