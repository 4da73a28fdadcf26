use Rattle.std.proofs.Common.{◌≡◌, ◌≤◌, [], length, take}
use Rattle.benc.specs.Device.{SinkSeen, SourceSeen, Sent}
use Rattle.wire.specs.Reading.{GaveFaultless}
use Rattle.wire.specs.Records.{header}
use Rattle.conversions.proofs.Ending.{SoFar}
use Rattle.conversions.proofs.converting.convert_frames.Given as goal

abbrev pub invariant-parts : goal.invariant-parts
invariant-parts g l = record {
  within : l.held ≤ length l.buffer;
  empty : l.outgoing.items ≡ [];
  converts : (first : SourceSeen) (start : SinkSeen) → GaveFaultless first (g.R.Source.seen l.fn.source) (take l.fn.held l.fn.buffer)
      → Sent start (g.W.Sink.seen l.fn.out) header
      → SoFar first (g.R.Source.seen l.source) start (g.W.Sink.seen l.out) l.left (take l.fn.held l.fn.buffer) (take l.held l.buffer);
}

abbrev pub decreases-parts : goal.decreases-parts
decreases-parts g l = (g.R.Source.seen l.source).limit
