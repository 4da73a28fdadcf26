-- Where the stretches of pieces stand while they wait for their step.
use Rattle.std.specs.Prelude.{ℕ, zero, suc, ◌+◌, ◌-◌, ◌*◌, ◌/◌, ◌%◌}
use Rattle.lanes.specs.declared.words.TheConstants.{LANES}

-- The slot of a stretch of a piece. A stretch waits as many steps as its number says, and so it has
-- as many slots, behind those of the stretches before it. Stretch 0 waits for the step of its own
-- piece, in the slot behind all others.
unfoldable pub slot_of : ℕ → ℕ → ℕ
slot_of piece zero = (LANES * (LANES - 1)) / 2
slot_of piece (suc i) = (suc i * i) / 2 + piece % suc i
