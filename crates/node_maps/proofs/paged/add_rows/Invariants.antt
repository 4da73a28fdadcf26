use Rattle.std.proofs.Common.{◌≡◌, ◌⊎◌, ℕ, suc, ◌+◌, ◌-◌, ◌≤◌, vec_len}
use Rattle.node_maps.specs.Paged.{page_at, row_pages}
use Rattle.node_maps.proofs.paged.add_rows.Given as goal

-- the rows that are added have no page
abbrev pub invariant-rows : goal.invariant-rows
invariant-rows l = record {
  pages : (k n : ℕ) → page_at l.rows.items k n ≡ page_at l.initial.rows.items k n;
  len : vec_len l.initial.rows ≤ vec_len l.rows;
  same : (k : ℕ) → row_pages l.rows.items k ≡ row_pages l.initial.rows.items k;
  most : (vec_len l.rows ≤ l.layer + 1) ⊎ (vec_len l.rows ≡ vec_len l.initial.rows);
}

abbrev pub decreases-rows : goal.decreases-rows
decreases-rows l = suc l.layer - vec_len l.rows
