use Rattle.lanes.specs.declared.words.TheConstants.{LANES}
use Rattle.lanes.proofs.OfLanes.{lowered_in}
use Rattle.lanes.proofs.words.lower.Goals as goal

pub returns : goal.returns
returns c = lowered_in LANES c.args.by c.args.x c.fits-x.0
