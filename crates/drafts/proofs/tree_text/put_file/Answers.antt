use Rattle.std.proofs.Common.{pos, if◌then◌else◌}
use Rattle.std.specs.Prelude.{codes, nat_lt}
use Rattle.benc.specs.Spelling.{integer}
use Rattle.benc.specs.Text.{pairs_spelling}
use Rattle.benc.specs.Value.{no_pairs, pair, text}
use Rattle.drafts.proofs.Keys.{file_text}
use Rattle.drafts.proofs.Penned.{put_as, put_both}
use Rattle.drafts.proofs.tree_text.put_file.Goals as goal

pub returns : goal.returns
returns g c =
    let f = c.args.file.now in
    put_as _ (put_both c.put.ensures (put_both c.put_integer.ensures (put_both c.put_root.ensures c.put-2.ensures)))
    (file_text (integer (pos f.length)) (pairs_spelling (if nat_lt 0 f.length then pair (codes "pieces root") (text f.root) no_pairs else no_pairs)))
