use Rattle.std.proofs.Common.{◌≡◌, ◌-◌, ◌≤◌, replicate, vec_len}
use Rattle.pieces.proofs.room.room_of_zeros.Given as goal

abbrev pub invariant-parts : goal.invariant-parts
invariant-parts l = (vec_len l.room ≤ l.count) × (l.room.items ≡ replicate (vec_len l.room) 0)

abbrev pub decreases-parts : goal.decreases-parts
decreases-parts l = l.count - vec_len l.room
