use Rattle.node_maps.proofs.Rising.{searched_at}
use Rattle.node_maps.proofs.search.search.Goals as goal

pub returns-clause-gap : goal.returns-clause-gap
returns-clause-gap c = (searched_at c.args.numbers.now c.requires c.args.number c.binary_search.result c.binary_search.ensures.position).gap
