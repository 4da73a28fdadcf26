use Rattle.std.proofs.Common.{◌<◌, [], get_or, length, refl, sym, subst}
use Rattle.std.specs.Prelude.{IfSome}
use Rattle.opening.specs.declared.torrent.TreeInfo.{TreeInfo}
use Rattle.c_layouts.specs.Files.{HasTree}
use Rattle.c_layouts.proofs.Entries.{tree_there}
use Rattle.c_layouts.proofs.file_info.tree_and_root.Goals as goal

pub returns-in-Some : goal.returns-in-Some
returns-in-Some c =
    let d = c.args.torrent.now in let n = c.in-Some.number in let infos = c.trees.result.now in
    let x : TreeInfo = record { root = []; length = 0; layer = record { ref_ptr = (0, 0); now = [] } } in
    let low : n < length d.trees = subst (λ t. IfSome t (λ k. k < length d.trees)) c.in-Some.is c.requires in
    subst (λ t. HasTree d t n (get_or infos n x).root) (sym c.in-Some.is)
    (refl, tree_there d infos n x c.trees.ensures low)
