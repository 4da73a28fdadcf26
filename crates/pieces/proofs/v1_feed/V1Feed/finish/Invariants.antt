use Rattle.std.proofs.Common.{ℕ, ◌+◌, ◌≤◌, List}
use Rattle.pieces.specs.CutStreams.{cuts_left}
use Rattle.pieces.specs.Feeding.{IsFeedGiven, IsFirstBad}
use Rattle.pieces.proofs.Settling.{AreLeft}
use Rattle.pieces.proofs.v1_feed.V1Feed.finish.Given as goal

abbrev pub invariant-cuts : goal.invariant-cuts
invariant-cuts l = record {
  count : l.cut + cuts_left l.stream l.left ≤ l.fn.self.given;
  content : (pieces : List (List ℕ)) (n : ℕ) (content : List ℕ) → IsFeedGiven l.fn.self pieces n content
      → AreLeft l.stream l.left n l.cut content × IsFirstBad n pieces content l.cut l.bad;
}

abbrev pub decreases-cuts : goal.decreases-cuts
decreases-cuts l = cuts_left l.stream l.left
