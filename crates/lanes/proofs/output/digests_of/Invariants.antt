use Rattle.std.proofs.Common.{◌≡◌, ℕ, ◌<◌, length, [], slice_index_or}
use Rattle.lanes.specs.Lanes.{bytes_in}
use Rattle.lanes.specs.declared.words.TheConstants.{LANES}
use Rattle.lanes.proofs.output.digests_of.Given as goal

abbrev pub invariant-messages : goal.invariant-messages
invariant-messages g l = (length l.digests ≡ LANES)
    × ((j : ℕ) → j < l.j → slice_index_or l.digests j [] ≡ bytes_in j l.state g.row.COUNT)
