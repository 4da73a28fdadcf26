use Rattle.std.proofs.Common.{◌≡◌, ℕ, ◌+◌, ◌≤◌, List, vec_len}
use Rattle.std.specs.Vec.{vec_capacity}
use Rattle.hashtree.specs.Room.{HasSmallRoom}
use Rattle.pieces.specs.CutStreams.{cuts_left}
use Rattle.pieces.specs.FileCuts.{IsFedCuts}
use Rattle.pieces.specs.Listed.{AreListed}
use Rattle.pieces.proofs.Settling.{AreLeft}
use Rattle.pieces.proofs.v1_cuts.V1Cuts.finish.Given as goal

abbrev pub invariant-cuts : goal.invariant-cuts
invariant-cuts l = record {
  count : vec_len l.cuts + cuts_left l.stream l.left ≡ vec_len l.initial.cuts + cuts_left l.initial.stream l.initial.left;
  capacity : vec_capacity l.initial.cuts ≤ vec_capacity l.cuts;
  thrifty : HasSmallRoom l.initial.cuts → HasSmallRoom l.cuts;
  content : (n : ℕ) (content : List ℕ) → IsFedCuts l.fn.self n content
      → AreLeft l.stream l.left n (vec_len l.cuts) content × AreListed n l.cuts.items content (vec_len l.cuts);
}

abbrev pub decreases-cuts : goal.decreases-cuts
decreases-cuts l = cuts_left l.stream l.left
