use Rattle.std.proofs.Common.{rules}
use Rattle.wire.proofs.reader.FrameReader+R.new.Goals as goal

pub returns-clause-no_memory : goal.returns-clause-no_memory
returns-clause-no_memory g c = search rules
