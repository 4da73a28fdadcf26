use Rattle.std.proofs.Common.{◌≡◌, ℕ, suc, ◌-◌, ◌≤◌, vec_len}
use Rattle.node_maps.specs.Flat.{cells, row_cells}
use Rattle.node_maps.proofs.flat.add_rows.Given as goal

-- the rows that are added are empty
abbrev pub invariant-rows : goal.invariant-rows
invariant-rows l = record {
  cells : (k i : ℕ) → cells l.rows.items k i ≡ cells l.initial.rows.items k i;
  len : vec_len l.initial.rows ≤ vec_len l.rows;
  same : (k : ℕ) → row_cells l.rows.items k ≡ row_cells l.initial.rows.items k;
}

abbrev pub decreases-rows : goal.decreases-rows
decreases-rows l = suc l.layer - vec_len l.rows
