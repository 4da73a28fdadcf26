use Rattle.fixed_maps.proofs.Carried.{entry-out, room-set}
use Rattle.fixed_maps.proofs.tiers.take_at.Goals as goal

pub returns-clause-entries : goal.returns-clause-entries
returns-clause-entries c = entry-out c.args.tiers.now c.args.spot.tier c.args.spot.place c.index-tiers-spot.result c.take.new.self c.requires
    c.take.ensures.items

pub returns-clause-room : goal.returns-clause-room
returns-clause-room c = room-set c.args.tiers.now c.args.spot.tier c.index-tiers-spot.result c.take.new.self c.requires c.take.ensures.width
