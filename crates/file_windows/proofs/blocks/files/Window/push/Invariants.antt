use Rattle.std.proofs.Common.{◌≡◌, ℕ, ◌<◌, slice_index}
use Rattle.file_windows.specs.Files.{IsBlockAt}
use Rattle.file_windows.proofs.blocks.files.Window.push.Given as goal

abbrev pub invariant-parts : goal.invariant-parts
invariant-parts l = record {
  count : l.self.count ≡ l.fn.self.count;
  new : (i : ℕ) → i < l.j → IsBlockAt l.self l.first l.start l.size i;
  starts : (b : ℕ) → b < l.first → slice_index l.self.starts b ≡ slice_index l.fn.self.starts b;
  sizes : (b : ℕ) → b < l.first → slice_index l.self.sizes b ≡ slice_index l.fn.self.sizes b;
}
