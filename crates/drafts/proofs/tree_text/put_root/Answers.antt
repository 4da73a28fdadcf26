use Rattle.std.proofs.Common.{◌≡◌, true, arith}
use Rattle.std.specs.Prelude.{nat_lt}
use Rattle.benc.specs.Spelling.{string}
use Rattle.drafts.proofs.Keys.{root_text}
use Rattle.drafts.proofs.Penned.{put_as, put_both}
use Rattle.drafts.proofs.tree_text.put_root.Goals as goal

pub returns-then-file-gt0 : goal.returns-then-file-gt0
returns-then-file-gt0 g c =
    let some : nat_lt 0 c.args.file.now.length ≡ true = grind arith in
    rw some (put_as _ (put_both c.put.ensures c.put_string.ensures) (root_text (string c.args.file.now.root)))
