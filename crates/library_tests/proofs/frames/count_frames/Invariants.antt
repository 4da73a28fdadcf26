use Rattle.std.proofs.Common.{◌≡◌, ℕ, List, length, All}
use Rattle.std.specs.List.{flat_map}
use Rattle.wire.specs.Frames.{IsBody, frame}
use Rattle.wire.specs.Reader.{IsOpen}
use Rattle.wire.specs.Reading.{Gave}
use Rattle.library_tests.proofs.frames.count_frames.Given as goal

abbrev pub invariant-frames : goal.invariant-frames
invariant-frames g l = record {
  stands : IsOpen l.reader;
  same : l.reader.source.ghost_name ≡ l.initial.reader.source.ghost_name;
  read : (bodies : List (List ℕ)) × All IsBody bodies × (length bodies ≡ l.n) × Gave (g.R.Source.seen l.fn.source) (g.R.Source.seen l.reader.source.now)
      (flat_map frame bodies);
}

abbrev pub decreases-frames : goal.decreases-frames
decreases-frames g l = (g.R.Source.seen l.reader.source.now).limit
