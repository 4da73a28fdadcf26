use Rattle.std.proofs.Common.{◌≡◌, ℕ, ◌+◌, ◌*◌, ◌/◌, ◌^◌, ◌<◌, ◌≤◌, [], get_or}
use Rattle.hashtree.specs.Tree.{zero_hash}
use Rattle.partial_tree.specs.Claims.{sibling}
use Rattle.partial_tree.proofs.message.checks.uncle_pads_fit.Given as goal

-- the uncles so far fit
abbrev pub invariant-loop-uncle : goal.invariant-loop-uncle
invariant-loop-uncle l = record {
  layer : l.layer ≡ l.cover + l.uncle-index;
  width : l.width ≡ 2 ^ (l.cover + l.uncle-index);
  upward : l.pads.layer ≤ l.layer;
  above : l.above ≡ l.node / 2 ^ l.uncle-index;
  fit : (k : ℕ) → k < l.uncle-index → l.blocks ≤ sibling (l.node / 2 ^ k) * 2 ^ (l.cover + k) → get_or l.uncles k [] ≡ zero_hash (l.cover + k);
}
