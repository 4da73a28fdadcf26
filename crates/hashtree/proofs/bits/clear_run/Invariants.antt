use Rattle.std.proofs.Common.{◌≡◌, ℕ, ◌-◌, ◌<◌, ◌≤◌}
use Rattle.hashtree.specs.Bits.{AreSet, bit_of}
use Rattle.hashtree.proofs.bits.clear_run.Given as goal

abbrev pub invariant-set : goal.invariant-set
invariant-set l = record {
  low : l.from ≤ l.first;
  set : AreSet l.bits l.from l.first;
}

abbrev pub decreases-set : goal.decreases-set
decreases-set l = l.to - l.first

abbrev pub invariant-clear : goal.invariant-clear
invariant-clear l = record {
  some : l.first < l.end;
  within : l.end ≤ l.to;
  clear : (k : ℕ) → l.first ≤ k → k < l.end → bit_of l.bits k ≡ 1 → ⊥;
}

abbrev pub decreases-clear : goal.decreases-clear
decreases-clear l = l.to - l.end
