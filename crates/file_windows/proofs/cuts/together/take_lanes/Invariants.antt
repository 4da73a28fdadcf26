use Rattle.std.proofs.Common.{◌≡◌, ℕ, ◌+◌, ◌<◌, length}
use Rattle.file_windows.specs.Digests.{IsDigest}
use Rattle.file_windows.proofs.cuts.together.take_lanes.Given as goal

abbrev pub invariant-lanes : goal.invariant-lanes
invariant-lanes l = record {
  count : length l.digests ≡ length l.fn.digests;
  taken : (j : ℕ) → j < l.j → IsDigest l.buffer l.piece_length l.starts l.sizes l.digests (l.from + j);
  kept : (i : ℕ) → i < l.from → IsDigest l.buffer l.piece_length l.starts l.sizes l.fn.digests i
      → IsDigest l.buffer l.piece_length l.starts l.sizes l.digests i;
}
