use Rattle.lanes.specs.declared.words.TheConstants.{LANES}
use Rattle.std.proofs.Common.{◌≡◌, ℕ, suc, ◌<◌, length, slice_index}
use Rattle.sha1_lanes.proofs.relay.passed.Given as goal

abbrev pub invariant-lanes : goal.invariant-lanes
invariant-lanes l = record {
  long : length l.new ≡ LANES;
  begins : slice_index l.new 0 ≡ slice_index l.fn.first 0;
  passes : (j : ℕ) → suc j < l.j → slice_index l.new (suc j) ≡ slice_index l.fn.words j;
}
