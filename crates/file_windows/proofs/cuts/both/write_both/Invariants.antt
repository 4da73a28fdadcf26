use Rattle.std.proofs.Common.{◌≡◌, ℕ, ◌*◌, ◌<◌, length}
use Rattle.lanes.specs.declared.words.TheConstants.{LANES}
use Rattle.file_windows.specs.Digests.{IsDigest, IsOwnDigest}
use Rattle.file_windows.proofs.cuts.both.write_both.Given as goal

abbrev pub invariant-turns : goal.invariant-turns
invariant-turns l = record {
  own_count : length l.own ≡ length l.fn.own;
  count : length l.digests ≡ length l.fn.digests;
  own : (i : ℕ) → i < LANES * l.turn → i < length l.digests → IsOwnDigest l.buffer l.starts l.sizes l.own i;
  digests : (i : ℕ) → i < LANES * l.turn → i < length l.digests → IsDigest l.buffer l.piece_length l.starts l.sizes l.digests i;
}
