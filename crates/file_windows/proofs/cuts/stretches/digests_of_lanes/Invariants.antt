use Rattle.std.proofs.Common.{◌≡◌, ◌-◌, ◌%◌, ◌≤◌, length}
use Rattle.file_windows.specs.LaneCuts.{HaveEnded, HaveTaken}
use Rattle.lanes.specs.declared.words.TheConstants.{LANES}
use Rattle.file_windows.proofs.cuts.stretches.digests_of_lanes.Given as goal

abbrev pub invariant-stretches : goal.invariant-stretches
invariant-stretches l = record {
  within : l.at ≤ l.whole;
  whole_blocks : l.at % 64 ≡ 0;
  count : length l.own ≡ LANES;
  taken : HaveTaken l.batch l.buffer l.starts l.sizes l.whole l.at;
  ended : HaveEnded l.buffer l.starts l.sizes l.own l.at;
}

abbrev pub decreases-stretches : goal.decreases-stretches
decreases-stretches l = l.whole - l.at
