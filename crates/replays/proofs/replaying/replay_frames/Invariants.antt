use Rattle.wire.specs.Reader.{HasRoom, IsOpen, KeepsSource}
use Rattle.wire.specs.RecordReader.{frame_reader}
use Rattle.replays.specs.Replay.{replay_seen}
use Rattle.replays.proofs.Replays.{InReplay}
use Rattle.replays.proofs.replaying.replay_frames.Given as goal

abbrev pub invariant-frames : goal.invariant-frames
invariant-frames g l = record {
  source : KeepsSource (frame_reader l.fn.reader) (frame_reader l.reader);
  going : IsOpen (frame_reader l.reader);
  room : HasRoom (frame_reader l.reader);
  so_far : InReplay (g.K.TellsFrames.teller g.L.LineSink.spelled)
      (replay_seen l.cuts (g.R.Source.seen l.fn.reader.source.now) l.fn.session (g.K.TellsFrames.kept l.fn.keeper) (g.L.LineSink.seen l.fn.report)
      (g.B.Answering.seen l.fn.answers))
      (replay_seen l.cuts (g.R.Source.seen l.reader.source.now) l.session (g.K.TellsFrames.kept l.keeper) (g.L.LineSink.seen l.report)
      (g.B.Answering.seen l.answers))
      l.reader.form l.number l.outcome;
}

abbrev pub decreases-frames : goal.decreases-frames
decreases-frames g l = (g.R.Source.seen l.reader.source.now).limit
