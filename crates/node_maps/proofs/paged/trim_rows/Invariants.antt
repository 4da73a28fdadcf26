use Rattle.std.proofs.Common.{◌≡◌, ℕ, vec_len}
use Rattle.node_maps.specs.Paged.{cell_at, AreTrimmed, AreNotMore}
use Rattle.node_maps.proofs.paged.trim_rows.Given as goal

-- the rows so far are trimmed
abbrev pub invariant-rows : goal.invariant-rows
invariant-rows l = record {
  cells : (k i : ℕ) → cell_at l.rows.items k i ≡ cell_at l.initial.rows.items k i;
  len : vec_len l.rows ≡ vec_len l.initial.rows;
  few : AreNotMore l.initial.rows.items l.rows.items;
  trimmed : AreTrimmed l.rows.items l.layer;
}
