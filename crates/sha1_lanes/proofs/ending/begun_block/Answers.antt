use Rattle.sha1_lanes.proofs.Endings.{bit_put}
use Rattle.sha1_lanes.proofs.ending.begun_block.Goals as goal

pub returns : goal.returns
returns c = bit_put c.args.rest.now _ c.copy_from_slice.ensures.after c.requires
