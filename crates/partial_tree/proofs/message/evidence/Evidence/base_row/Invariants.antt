use Rattle.std.proofs.Common.{◌≡◌, ℕ, ◌<◌, [], length, slice_index_or, Some}
use Rattle.partial_tree.specs.Evidence.{given_by}
use Rattle.partial_tree.specs.FoldedRows.{place_in_row}
use Rattle.partial_tree.proofs.message.evidence.Evidence.base_row.Given as goal

-- the hashes of the places so far
abbrev pub invariant-places : goal.invariant-places
invariant-places l = record {
  size : length l.hashes ≡ 8;
  given : (j : ℕ) → j < l.j → given_by l.self l.row.layer (place_in_row l.row j) ≡ Some (slice_index_or l.hashes j []);
}
