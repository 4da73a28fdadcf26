use Rattle.std.proofs.Common.{drop, map}
use Rattle.benc.specs.View.{pairs_view}
use Rattle.filetree.specs.Walked.{walk_of, IsOnWay}
use Rattle.filetree.proofs.Rooms.{AreLeft}
use Rattle.filetree.proofs.walk.+walk.Given as goal

abbrev pub invariant-walk-pairs : goal.invariant-walk-pairs
invariant-walk-pairs l = IsOnWay l.fn.folder (pairs_view l.pairs) (pairs_view (drop l.pair-index l.pairs)) (map walk_of l.fn.files.items)
    (map walk_of l.files.items)
    × AreLeft l.fn.folder (pairs_view (drop l.pair-index l.pairs))
