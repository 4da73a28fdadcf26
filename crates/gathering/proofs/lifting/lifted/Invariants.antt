use Rattle.std.proofs.Common.{◌≡◌, ℕ, ◌≤◌, List, length}
use Rattle.hashtree.specs.Pieces.{piece_node}
use Rattle.hashtree.specs.Tree.{block_count, height, root_of}
use Rattle.gathering.proofs.lifting.lifted.Given as goal

abbrev pub invariant-layers : goal.invariant-layers
invariant-layers l =
    (height (block_count l.size) ≤ l.below)
    × ((piece : List ℕ) → length piece ≡ l.size → l.fn.root ≡ root_of piece → l.node ≡ piece_node l.below piece)
