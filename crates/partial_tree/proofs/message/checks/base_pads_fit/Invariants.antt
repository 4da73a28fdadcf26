use Rattle.std.proofs.Common.{◌≡◌, ℕ, ◌+◌, ◌*◌, ◌^◌, ◌<◌, ◌≤◌, [], get_or}
use Rattle.hashtree.specs.Tree.{zero_hash}
use Rattle.partial_tree.proofs.message.checks.base_pads_fit.Given as goal

-- the hashes so far fit
abbrev pub invariant-loop-j : goal.invariant-loop-j
invariant-loop-j l = record {
  fit : (k : ℕ) → k < l.j → l.blocks ≤ (l.index + k) * 2 ^ l.base → get_or l.hashes k [] ≡ zero_hash l.base;
  upward : l.pads.layer ≤ l.base;
}
