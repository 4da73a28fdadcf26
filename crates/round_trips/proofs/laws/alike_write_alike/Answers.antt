use Rattle.round_trips.proofs.Alike.{alike_write_alike}
use Rattle.round_trips.proofs.laws.alike_write_alike.Goals as goal

pub returns : goal.returns
returns c = alike_write_alike
