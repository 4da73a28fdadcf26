use Rattle.std.proofs.Common.{◌≡◌, None}
use Rattle.std.specs.FinMap.{get}
use Rattle.fixed_maps.specs.FixedMaps.{map_of}
use Rattle.fixed_maps.proofs.Parted.{first-least, first-none}
use Rattle.fixed_maps.proofs.fixed_map.FixedMap.first.Goals as goal

pub returns-clause-least : goal.returns-clause-least
returns-clause-least c = first-least (λ q. get (map_of c.args.self.now) q ≡ None) c.at_least.result c.at_least.ensures.least

pub returns-clause-none : goal.returns-clause-none
returns-clause-none c = first-none (λ q. get (map_of c.args.self.now) q ≡ None) c.at_least.result c.at_least.ensures.none
