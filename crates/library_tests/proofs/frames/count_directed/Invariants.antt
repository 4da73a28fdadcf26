use Rattle.std.proofs.Common.{◌≡◌, ◌+◌, ◌≤◌, ℕ, List, length}
use Rattle.wire.specs.Reader.{IsOpen}
use Rattle.wire.specs.RecordReader.{frame_reader}
use Rattle.wire.specs.Records.{Directed}
use Rattle.wire.proofs.RecordRuns.{HasRead}
use Rattle.library_tests.proofs.frames.count_directed.Given as goal

abbrev pub invariant-frames : goal.invariant-frames
invariant-frames g l = record {
  stands : IsOpen (frame_reader l.reader);
  same : l.reader.source.ghost_name ≡ l.initial.reader.source.ghost_name;
  room : l.n + (g.R.Source.seen l.reader.source.now).limit ≤ (g.R.Source.seen l.fn.source).limit;
  read : (ds : List (Directed (List ℕ))) × (length ds ≡ l.n) × HasRead (g.R.Source.seen l.fn.source) (g.R.Source.seen l.reader.source.now) l.reader.form ds;
}

abbrev pub decreases-frames : goal.decreases-frames
decreases-frames g l = (g.R.Source.seen l.reader.source.now).limit
