use Rattle.wire.proofs.OneReading.{Frames-append}
use Rattle.wire.proofs.laws.frames_after_frames.Goals as goal

pub returns : goal.returns
returns c = Frames-append
