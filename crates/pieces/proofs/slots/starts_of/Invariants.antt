use Rattle.std.proofs.Common.{◌≡◌, ℕ, ◌*◌, ◌<◌, length, slice_index}
use Rattle.lanes.specs.declared.words.TheConstants.{LANES}
use Rattle.pieces.specs.Slot.{slot_of}
use Rattle.pieces.proofs.slots.starts_of.Given as goal

abbrev pub invariant-lanes : goal.invariant-lanes
invariant-lanes l = record {
  long : length l.starts ≡ LANES;
  starts : (j : ℕ) → j < l.j → slice_index l.starts j ≡ slot_of l.step j * l.size;
}
