use Rattle.std.proofs.Common.{◌≡◌, drop}
use Rattle.std.specs.List.{list_any}
use Rattle.opening.specs.Layered.{layer_pairs}
use Rattle.opening.specs.PieceLayers.{lacks_layer}
use Rattle.opening.proofs.layer_tests.test_missing.Given as goal

abbrev pub invariant-trees : goal.invariant-trees
invariant-trees l = list_any (lacks_layer l.piece_length (layer_pairs l.layers)) l.trees ≡ list_any (lacks_layer l.piece_length (layer_pairs l.layers))
    (drop l.tree-index l.trees)
