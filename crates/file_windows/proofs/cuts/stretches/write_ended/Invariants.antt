use Rattle.std.proofs.Common.{◌≡◌, ℕ, ◌+◌, ◌<◌, length, slice_index}
use Rattle.file_windows.specs.Digests.{IsOwnDigest}
use Rattle.file_windows.specs.LaneCuts.{HaveEnded, end_of}
use Rattle.lanes.specs.declared.words.TheConstants.{LANES}
use Rattle.file_windows.proofs.cuts.stretches.write_ended.Given as goal

abbrev pub invariant-lanes : goal.invariant-lanes
invariant-lanes l = record {
  count : length l.own ≡ LANES;
  before : HaveEnded l.buffer l.starts l.sizes l.own l.at;
  done : (i : ℕ) → i < l.j → end_of (slice_index l.sizes i) < l.at + 1 → IsOwnDigest l.buffer l.starts l.sizes l.own i;
}
