use Rattle.std.proofs.Common.{◌≡◌, ◌≤◌, length, map, take, vec_len, vec_capacity}
use Rattle.opening.specs.Seen.{tree_entry}
use Rattle.partial_tree.specs.Kept.{info_of}
use Rattle.session.specs.Layouts.{root_of_entry}
use Rattle.session.proofs.FirstTrees.{ArePlanted}
use Rattle.session.proofs.planting.planted_all.Given as goal

-- a tree for each entry so far, as a session knows it at first, and the rest has room
abbrev pub invariant-infos : goal.invariant-infos
invariant-infos g l = record {
  same : map info_of l.trees.items ≡ take l.info-index (map root_of_entry (map tree_entry l.infos));
  planted : ArePlanted l.piece_length l.with_layers (map tree_entry l.infos) l.trees.items;
  stated : vec_len l.trees ≡ l.info-index;
  room : length l.infos ≤ vec_capacity l.trees;
}
