use Rattle.std.proofs.Common.{◌≡◌, drop}
use Rattle.benc.specs.View.{pairs_view}
use Rattle.filetree.specs.FileTree.{walks}
use Rattle.filetree.specs.FileTests.{any_fails}
use Rattle.filetree.proofs.file_tests.+file_test.Given as goal

abbrev pub invariant-any_fails-pairs : goal.invariant-any_fails-pairs
invariant-any_fails-pairs l =
    any_fails l.test (walks (pairs_view l.pairs)) ≡ any_fails l.test (walks (pairs_view (drop l.pair-index l.pairs)))
