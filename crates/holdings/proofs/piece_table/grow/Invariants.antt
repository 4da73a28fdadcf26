use Rattle.std.proofs.Common.{◌≡◌, ◌-◌, ◌≤◌, ◌++◌, length, replicate, vec_capacity}
use Rattle.holdings.proofs.piece_table.grow.Given as goal

-- the items are followed by copies of one
abbrev pub invariant-each : goal.invariant-each
invariant-each g l = record {
  long : length l.items.items ≡ l._i;
  grown : l.items.items ≡ l.fn.items.items ++ replicate (l._i - length l.fn.items.items) l.item;
  stop : l._i - length l.fn.items.items ≤ l.len - length l.fn.items.items;
  room : vec_capacity l.items ≡ vec_capacity l.fn.items;
}
