use Rattle.std.proofs.Common.{◌≡◌, length, map, take, vec_len, vec_capacity}
use Rattle.opening.specs.Layered.{layer_pairs}
use Rattle.opening.specs.PieceLayers.{tree_at}
use Rattle.opening.specs.Seen.{tree_entry}
use Rattle.opening.proofs.layer_tests.infos.Given as goal

abbrev pub invariant-trees : goal.invariant-trees
invariant-trees l = record {
  trees : map tree_entry l.infos.items ≡ map (tree_at l.piece_length (layer_pairs l.layers)) (take l.tree-index l.trees);
  count : vec_len l.infos ≡ l.tree-index;
  room : vec_capacity l.infos ≡ length l.trees;
}
