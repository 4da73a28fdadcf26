use Rattle.std.proofs.Common.{◌≡◌, ℕ, ◌<◌, slice_index}
use Rattle.file_windows.specs.Windows.{IsCut}
use Rattle.file_windows.proofs.cuts.window.CutWindow.push.Given as goal

abbrev pub invariant-cuts : goal.invariant-cuts
invariant-cuts l = record {
  piece_length : l.self.piece_length ≡ l.fn.self.piece_length;
  count : l.self.count ≡ l.fn.self.count;
  new : (i : ℕ) → i < l.j → IsCut l.self l.first l.start l.size i;
  starts : (b : ℕ) → b < l.first → slice_index l.self.starts b ≡ slice_index l.fn.self.starts b;
  sizes : (b : ℕ) → b < l.first → slice_index l.self.sizes b ≡ slice_index l.fn.self.sizes b;
}
