use Rattle.std.proofs.Common.{◌-◌, ◌≤◌}
use Rattle.node_maps.specs.PagedRow.{row_hashes}
use Rattle.node_maps.specs.Runs.{AreKnown}
use Rattle.node_maps.proofs.paged_row.PagedRow.knows.Given as goal

-- the places so far are known
abbrev pub invariant-parts : goal.invariant-parts
invariant-parts l = record {
  known : AreKnown (row_hashes l.self) l.from l.done;
  most : l.done ≤ l.count;
}

abbrev pub decreases-parts : goal.decreases-parts
decreases-parts l = l.count - l.done
