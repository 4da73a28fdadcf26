use Rattle.std.proofs.Common.{drop}
use Rattle.benc.specs.View.{pairs_view}
use Rattle.filetree.specs.Walked.{IsAsBad}
use Rattle.filetree.proofs.component.+bad_path.Given as goal

abbrev pub invariant-has_bad_path-pairs : goal.invariant-has_bad_path-pairs
invariant-has_bad_path-pairs l = IsAsBad (pairs_view l.pairs) (pairs_view (drop l.pair-index l.pairs))
