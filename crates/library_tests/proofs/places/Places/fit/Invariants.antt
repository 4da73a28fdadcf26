use Rattle.std.proofs.Common.{◌≡◌, ℕ, ◌+◌, ◌<◌, ◌≤◌, IsTrue, length, slice_index}
use Rattle.library_tests.proofs.places.Places.fit.Given as goal

abbrev pub invariant-lanes : goal.invariant-lanes
invariant-lanes l = (IsTrue l.fit → (j : ℕ) → j < l.j → slice_index l.self.starts j + slice_index l.self.sizes j ≤ length l.buffer)
    × (IsTrue l.fit → (j : ℕ) → j < l.j → slice_index l.self.sizes j ≤ l.most)
