use Rattle.std.proofs.Common.{drop, map}
use Rattle.std.specs.String.{string_bytes}
use Rattle.benc.specs.Text.{pairs_spelling}
use Rattle.drafts.specs.DraftSeen.{outline_file}
use Rattle.drafts.specs.Written.{file_tree_of, walk_to_file}
use Rattle.drafts.proofs.Penned.{SoFar}
use Rattle.drafts.proofs.TreeTexts.{rest_text}
use Rattle.drafts.proofs.tree_text.put_tree.Given as goal

-- the directories of the path before are open
abbrev pub invariant-files : goal.invariant-files
invariant-files g l =
    SoFar l.fn.pen (g.W.Sink.seen l.fn.w) l.pen (g.W.Sink.seen l.w) (pairs_spelling (file_tree_of (map outline_file l.files)))
    (rest_text (map string_bytes l.before) (map walk_to_file (map outline_file (drop l.file-index l.files))))
