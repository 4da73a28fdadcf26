use Rattle.std.proofs.Common.{rules, ◌≡◌, [], Some, refl, inr}
use Rattle.std.specs.Prelude.{slice_get}
use Rattle.opening.specs.Seen.{file_entry}
use Rattle.opening.specs.declared.torrent.TreeInfo.{TreeInfo}
use Rattle.opening.proofs.Placing.{file_there}
use Rattle.btcheck_c.proofs.Starting.{info_inside, info_sound, info_there}
use Rattle.btcheck_c.proofs.check_starts.tree_of.Goals as goal
use Rattle.btcheck_c.proofs.check_starts.tree_of.Goals.{In-Some}

abbrev none_there : TreeInfo
none_there = record { root = []; length = 0; layer = record { ref_ptr = (0, 0); now = [] } }

-- the torrent has this file
file : (c : In-Some) → slice_get c.args.torrent.now.files c.args.number ≡ Some (file_entry c.in-Some.file.now)
file c = file_there c.args.torrent.now c.files.result.now c.args.number c.in-Some.file.now c.files.ensures c.in-Some.ensures.lookup.3.0
    (c.in-Some.ensures.lookup.3.1 c.in-Some.file.now)

pub bounds-trees-tree : goal.bounds-trees-tree
bounds-trees-tree c =
    let f = file_entry c.in-Some.file.now in
    let there = file (goal.at.bounds-trees-tree c).In-Some in
    info_inside c.args.torrent.now c.trees.result.now f c.in-Some-tree.tree c.trees.ensures (c.recall_sound.ensures.files c.args.number f there)
    c.in-Some-tree.is

pub offset_bounds-trees-tree : goal.offset_bounds-trees-tree
offset_bounds-trees-tree c = let lt = bounds-trees-tree c in search rules

pub returns-in-None-tree : goal.returns-in-None-tree
returns-in-None-tree c = inr (refl, (file_entry c.in-Some.file.now, file (goal.at.returns-in-None-tree c).In-Some, c.in-None-tree.is))

pub returns-in-Some-tree : goal.returns-in-Some-tree
returns-in-Some-tree c =
    let d = c.args.torrent.now in let f = file_entry c.in-Some.file.now in
    let there = file (goal.at.returns-in-Some-tree c).In-Some in
    let inside = info_inside d c.trees.result.now f c.in-Some-tree.tree c.trees.ensures (c.recall_sound.ensures.files c.args.number f there)
    c.in-Some-tree.is in (
      record {
        file = f;
        tree = c.in-Some-tree.tree;
        file_is = there;
        tree_is = c.in-Some-tree.is;
        entry_is = info_there d c.trees.result.now c.in-Some-tree.tree none_there c.trees.ensures inside;
      },
      info_sound d c.trees.result.now c.in-Some-tree.tree d.piece_length none_there c.trees.ensures inside c.recall_sound.ensures refl,
    )
