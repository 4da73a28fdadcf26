use Rattle.std.proofs.Common.{rules, ◌≡◌, ◌∙◌, ◌<◌, [], Some, get_or, length, ap}
use Rattle.std.specs.Prelude.{slice_get}
use Rattle.chains.proofs.Cases.{item_at}
use Rattle.opening.specs.Description.{FileEntry}
use Rattle.opening.specs.Seen.{file_entry, tree_entry}
use Rattle.opening.specs.declared.torrent.TreeInfo.{TreeInfo}
use Rattle.seeding.specs.Passing.{IsOwnTree}
use Rattle.seeding.proofs.Trees.{found_tree, same_file}
use Rattle.seeding.proofs.finding.tree_of.Goals as goal
use Rattle.seeding.proofs.finding.tree_of.Goals.{After-trees}

-- what stands where no tree is
abbrev none : TreeInfo
none = record { root = []; length = 0; layer = record { ref_ptr = (0, 0); now = [] } }

-- the file has this tree
own : (c : After-trees) (f : FileEntry) (there : slice_get c.args.torrent.now.files c.args.number ≡ Some f)
    → (c.in-Some.tree < length c.trees.result.now)
    × IsOwnTree c.args.torrent.now f c.in-Some.tree (tree_entry (get_or c.trees.result.now c.in-Some.tree none))
own c f there =
    let same : f ≡ file_entry c.index-files-number.result =
    same_file c.args.torrent.now c.files.result.now c.args.number c.index-files-number.result f c.files.ensures c.requires c.index-files-number.is there in
    found_tree c.args.torrent.now f c.in-Some.tree c.trees.result.now none c.trees.ensures c.recall_sound.ensures (c.args.number, there)
    (ap (λ (x : FileEntry). x.tree) same ∙ c.in-Some.is)

pub bounds-trees-tree : goal.bounds-trees-tree
bounds-trees-tree c = let it = item_at c.args.torrent.now.files c.args.number c.requires in (own c it.0 it.1).0

pub offset_bounds-trees-tree : goal.offset_bounds-trees-tree
offset_bounds-trees-tree c = let inside = bounds-trees-tree c in search rules

pub returns-in-Some-clause-some : goal.returns-in-Some-clause-some
returns-in-Some-clause-some c f there = (c.in-Some.tree, (own c f there).1)

pub returns-in-Some-clause-bounds : goal.returns-in-Some-clause-bounds
returns-in-Some-clause-bounds c =
    let it = item_at c.args.torrent.now.files c.args.number c.requires in
    let e = (own c it.0 it.1).1 in
    (e.some, e.small)

pub returns-in-None-clause-none : goal.returns-in-None-clause-none
returns-in-None-clause-none c f there =
    let same : f ≡ file_entry c.index-files-number.result =
    same_file c.args.torrent.now c.files.result.now c.args.number c.index-files-number.result f c.files.ensures c.requires c.index-files-number.is there in
    ap (λ (x : FileEntry). x.tree) same ∙ c.in-None.is
