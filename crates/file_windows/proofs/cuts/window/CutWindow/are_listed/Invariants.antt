use Rattle.std.proofs.Common.{◌≡◌, ℕ, ◌+◌, ◌<◌, []}
use Rattle.std.specs.Prelude.{slice_index_or}
use Rattle.file_windows.proofs.cuts.window.CutWindow.are_listed.Given as goal

abbrev pub invariant-cuts : goal.invariant-cuts
invariant-cuts l = (i : ℕ) → i < l.k → slice_index_or l.self.digests (l.first + i) [] ≡ slice_index_or l.listed i []
