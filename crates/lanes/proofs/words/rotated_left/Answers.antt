use Rattle.lanes.specs.declared.words.TheConstants.{LANES}
use Rattle.lanes.proofs.OfLanes.{rotated_left_in}
use Rattle.lanes.proofs.words.rotated_left.Goals as goal

pub returns : goal.returns
returns c = rotated_left_in LANES c.args.by c.requires.some c.requires.in_word c.args.x c.fits-x.0
