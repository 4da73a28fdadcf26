use Rattle.node_maps.specs.PageIndexes.{on_rows}
use Rattle.node_maps.specs.PagedRow.{pages_of}
use Rattle.node_maps.proofs.Numbers.{counted-few}
use Rattle.node_maps.proofs.paged_row.PagedRow.len.Goals as goal

pub returns-clause-small : goal.returns-clause-small
unfolding pages_of
returns-clause-small c = counted-few (on_rows c.args.self.now.pages) c.args.self.now.count c.args.self.now.counted
