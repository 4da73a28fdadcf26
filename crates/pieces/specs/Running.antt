-- The bytes of a stream that are running: those behind the cuts whose digests were told. Public
-- clauses do not name these.
use Rattle.std.specs.Prelude.{◌≡◌, ℕ, ◌-◌, ◌*◌, List, [], drop, Option, Some, None}
use Rattle.pieces.specs.Cutting.{IsCutting}
use Rattle.pieces.specs.Staged.{IsStaged, bytes_staged, steps_made, told_before}
use Rattle.pieces.specs.declared.cutter.Cutter.{Cutter}
use Rattle.pieces.specs.declared.stages.Stages.{Stages}

-- how many digests stages told
abbrev pub told : Stages → ℕ
told s = told_before (steps_made s)

-- the same of stages, if there are some
abbrev pub told_in : Option Stages → ℕ
told_in None = 0
told_in (Some s) = told s

-- stages hold some content in pieces of this length
abbrev pub HoldsSomeContent : Stages → ℕ → Type 0
HoldsSomeContent s piece_length = ∥ ((content : List ℕ) × IsStaged s piece_length content) ∥₁

-- stages hold these bytes behind the pieces whose digests they told
pub record HoldsUntold (s : Stages) (piece_length : ℕ) (running : List ℕ) : Type 0 where
  pub content : List ℕ
  pub staged : IsStaged s piece_length content
  pub running_is : running ≡ drop (piece_length * told s) content

-- these bytes are running: in a cutter, or in stages
abbrev pub IsRunning : Cutter → Option Stages → ℕ → List ℕ → Type 0
IsRunning cutter None piece_length running = IsCutting cutter running
IsRunning cutter (Some s) piece_length running =
    IsCutting cutter [] × HoldsUntold s piece_length running

-- how many bytes stages hold behind the pieces whose digests they told
abbrev pub bytes_untold : Option Stages → ℕ → ℕ
bytes_untold None piece_length = 0
bytes_untold (Some s) piece_length = bytes_staged s - piece_length * told s
