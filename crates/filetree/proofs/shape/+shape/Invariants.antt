use Rattle.std.proofs.Common.{◌≡◌, drop}
use Rattle.benc.specs.View.{pairs_view}
use Rattle.filetree.specs.FileTree.{is_directory}
use Rattle.filetree.proofs.shape.+shape.Given as goal

abbrev pub invariant-is_directory-pairs : goal.invariant-is_directory-pairs
invariant-is_directory-pairs l = is_directory (pairs_view l.pairs) ≡ is_directory (pairs_view (drop l.pair-index l.pairs))
