use Rattle.lanes.specs.declared.words.TheConstants.{LANES}
use Rattle.std.proofs.Common.{◌≡◌, ℕ, ◌<◌, ◌*◌, length, slice_index}
use Rattle.lanes.proofs.reading.places.Given as goal

abbrev pub invariant-messages : goal.invariant-messages
invariant-messages l = (length l.starts ≡ LANES)
    × ((j : ℕ) → j < l.j → slice_index l.starts j ≡ j * l.size)
