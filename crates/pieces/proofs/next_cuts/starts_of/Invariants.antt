use Rattle.std.proofs.Common.{◌≡◌, ℕ, ◌+◌, ◌-◌, ◌*◌, ◌<◌, ◌≤◌, length, slice_index}
use Rattle.lanes.specs.declared.words.TheConstants.{LANES}
use Rattle.pieces.proofs.next_cuts.starts_of.Given as goal

abbrev pub invariant-cuts : goal.invariant-cuts
invariant-cuts l = record {
  long : length l.starts ≡ LANES;
  starts : (i : ℕ) → i < l.i → slice_index l.starts (LANES - l.count + i) ≡ i * l.size;
  inside : (j : ℕ) → j < LANES → slice_index l.starts j + l.size ≤ l.count * l.size;
}
