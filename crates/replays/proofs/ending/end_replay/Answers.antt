use Rattle.std.proofs.Common.{rules}
use Rattle.replays.proofs.ending.end_replay.Goals as goal

pub returns-clause-wrote : goal.returns-clause-wrote
returns-clause-wrote g c = search rules
