use Rattle.std.proofs.Common.{ℕ, ◌+◌, ◌-◌, ◌<◌, ◌≤◌, min}
use Rattle.node_maps.specs.Growth.{IsGrown}
use Rattle.node_maps.specs.PagedRow.{pages_of, AreSameRowCells, HasRowPage, KeepsRowPages}
use Rattle.node_maps.proofs.paged_row.PagedRow.reserve.Given as goal

-- the pages so far are there, and each that was made is noted
abbrev pub invariant-numbers : goal.invariant-numbers
invariant-numbers l = record {
  cells : AreSameRowCells l.initial.self l.self;
  keeps : KeepsRowPages l.initial.self l.self;
  done : (n : ℕ) → l.first ≤ n → n < l.number → HasRowPage l.self n;
  few : l.self.count ≤ l.initial.self.count + (min l.number l.end - l.first);
  grown : IsGrown (pages_of l.initial.self) l.initial.self.fresh.items l.initial.self.count (pages_of l.self) l.self.fresh.items l.self.count;
}
