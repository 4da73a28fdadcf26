use Rattle.std.proofs.Common.{refl}
use Rattle.opening.specs.Seen.{file_entry}
use Rattle.opening.proofs.Placing.{file_there}
use Rattle.c_layouts.proofs.Entries.{tree_inside}
use Rattle.c_layouts.proofs.file_info.file_info.Goals as goal

pub tree_and_root-tree-requires : goal.tree_and_root-tree-requires
tree_and_root-tree-requires c =
    tree_inside c.args.torrent.now (file_entry c.in-Some.file.now) (c.recall_sound.ensures.files c.args.number (file_entry c.in-Some.file.now)
    (file_there c.args.torrent.now c.files.result.now c.args.number c.in-Some.file.now c.files.ensures c.in-Some.ensures.lookup.3.0
    (c.in-Some.ensures.lookup.3.1 c.in-Some.file.now)))

pub returns-in-Some : goal.returns-in-Some
returns-in-Some c = record {
  file = file_entry c.in-Some.file.now;
  file_is = file_there c.args.torrent.now c.files.result.now c.args.number c.in-Some.file.now c.files.ensures c.in-Some.ensures.lookup.3.0
      (c.in-Some.ensures.lookup.3.1 c.in-Some.file.now);
  length_is = refl;
  first_is = refl;
  tree_is = c.tree_and_root-tree.ensures;
}
