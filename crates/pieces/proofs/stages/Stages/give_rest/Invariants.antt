use Rattle.std.proofs.Common.{◌≡◌, ℕ, ◌*◌, ◌≤◌, List, [], take, drop}
use Rattle.lanes.specs.declared.words.TheConstants.{LANES}
use Rattle.pieces.specs.Cutting.{IsCutting}
use Rattle.pieces.specs.Staged.{IsDraining}
use Rattle.pieces.proofs.stages.Stages.give_rest.Given as goal

abbrev pub invariant-stretches : goal.invariant-stretches
invariant-stretches l = record {
  piece_length : l.cutter.piece_length ≡ l.fn.cutter.piece_length;
  filled : l.cutter.filled ≤ l.self.store.size * l.stretch;
  running : (step piece_length : ℕ) (content : List ℕ) → IsDraining l.self step piece_length content
      → l.fn.cutter.piece_length ≡ piece_length → IsCutting l.fn.cutter []
      → IsCutting l.cutter (take (l.self.store.size * l.stretch) (drop (l.self.store.size * (LANES * l.self.piece)) content));
}
