use Rattle.std.proofs.Common.{◌≡◌, ◌+◌, ◌++◌, vec_len}
use Rattle.std.specs.Vec.{vec_capacity}
use Rattle.node_maps.specs.Flat.{hash_in_row}
use Rattle.node_maps.specs.Runs.{hashes_from}
use Rattle.node_maps.proofs.flat.append_hashes.Given as goal

-- the hashes of the cells so far were appended
abbrev pub invariant-cells : goal.invariant-cells
invariant-cells l = record {
  copied : l.out.items ≡ l.initial.out.items ++ hashes_from (hash_in_row l.row) 0 l.cell-index;
  len : vec_len l.out ≡ vec_len l.initial.out + l.cell-index;
  capacity : vec_capacity l.out ≡ vec_capacity l.initial.out;
}
