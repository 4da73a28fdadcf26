use Rattle.wire.proofs.OneReading.{Frames-unique}
use Rattle.wire.proofs.laws.one_list_of_frames.Goals as goal

pub returns : goal.returns
returns c = Frames-unique
