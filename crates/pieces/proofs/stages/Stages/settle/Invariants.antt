use Rattle.std.proofs.Common.{◌≡◌, ℕ, ◌+◌, ◌-◌, ◌<◌, ◌≤◌, List, [], length, slice_index_or}
use Rattle.sha1.specs.Sha1.{sha1}
use Rattle.lanes.specs.declared.words.TheConstants.{LANES}
use Rattle.pieces.specs.Cuts.{cut}
use Rattle.pieces.specs.Running.{told}
use Rattle.pieces.specs.Staged.{IsDraining, IsStaged, told_before}
use Rattle.pieces.proofs.stages.Stages.settle.Given as goal

abbrev pub invariant-steps : goal.invariant-steps
invariant-steps l = record {
  long : length l.digests ≡ LANES;
  store : l.self.store ≡ l.initial.self.store;
  piece : l.self.piece ≡ l.initial.self.piece;
  stretch : l.self.stretch ≡ l.initial.self.stretch;
  filled : l.self.filled ≡ l.initial.self.filled;
  drains : (n : ℕ) (content : List ℕ) → IsStaged l.initial.self n content → IsDraining l.self l.step n content;
  known : (n : ℕ) (content : List ℕ) → IsStaged l.initial.self n content → (t : ℕ) → told l.initial.self ≤ t → t < told_before l.step
      → slice_index_or l.digests (LANES + t - l.self.piece) [] ≡ sha1 (cut n content t);
}
