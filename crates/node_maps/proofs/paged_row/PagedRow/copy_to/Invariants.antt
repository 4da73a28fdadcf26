use Rattle.std.proofs.Common.{◌≡◌, ◌+◌, ◌-◌, ◌≤◌, ◌++◌, vec_len}
use Rattle.std.specs.Vec.{vec_capacity}
use Rattle.node_maps.specs.PagedRow.{row_hashes}
use Rattle.node_maps.specs.Runs.{hashes_from}
use Rattle.node_maps.proofs.paged_row.PagedRow.copy_to.Given as goal

-- the hashes of the places so far were appended
abbrev pub invariant-parts : goal.invariant-parts
invariant-parts l = record {
  copied : l.out.items ≡ l.initial.out.items ++ hashes_from (row_hashes l.self) l.from l.done;
  len : vec_len l.out ≡ vec_len l.initial.out + l.done;
  capacity : vec_capacity l.out ≡ vec_capacity l.initial.out;
  most : l.done ≤ l.count;
}

abbrev pub decreases-parts : goal.decreases-parts
decreases-parts l = l.count - l.done
