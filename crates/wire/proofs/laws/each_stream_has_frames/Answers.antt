use Rattle.wire.proofs.OneReading.{Frames-of_bytes}
use Rattle.wire.proofs.laws.each_stream_has_frames.Goals as goal

pub returns : goal.returns
returns c = Frames-of_bytes
