use Rattle.std.proofs.Common.{◌≡◌, ◌≤◌, count_by, is_some, take}
use Rattle.holdings.proofs.kept.held_of.Given as goal

-- as many as are held of the cells so far
abbrev pub invariant-each : goal.invariant-each
invariant-each l = record {
  count : l.held ≡ count_by is_some (take l.cell-index l.cells);
  few : l.held ≤ l.cell-index;
}
