use Rattle.std.proofs.Common.{◌≡◌, ◌≤◌, ℕ, List, length, vec_len}
use Rattle.node_maps.specs.Pages.{Numbered}
use Rattle.node_maps.specs.Growth.{IsGrown}
use Rattle.node_maps.specs.PagedRow.{pages_of, cell_of_row}
use Rattle.node_maps.proofs.paged_row.PagedRow.give_back.Given as goal

-- the cells stay, there are no more pages, and what was made and is not given back yet was made still
abbrev pub invariant-fresh : goal.invariant-fresh
invariant-fresh l = record {
  cells : (i : ℕ) → cell_of_row l.self i ≡ cell_of_row l.initial.self i;
  few : l.self.count ≤ l.initial.self.count;
  left : (base : Numbered) (fresh : List ℕ) (count : ℕ) → length fresh ≡ l.before
      → IsGrown base fresh count (pages_of l.initial.self) l.initial.self.fresh.items l.initial.self.count
      → IsGrown base fresh count (pages_of l.self) l.self.fresh.items l.self.count;
}

abbrev pub decreases-fresh : goal.decreases-fresh
decreases-fresh l = vec_len l.self.fresh
