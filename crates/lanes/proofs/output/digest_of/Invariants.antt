use Rattle.std.proofs.Common.{◌≡◌, ◌*◌, length, take}
use Rattle.lanes.specs.Lanes.{bytes_in}
use Rattle.lanes.proofs.output.digest_of.Given as goal

abbrev pub invariant-words : goal.invariant-words
invariant-words g l = (length l.bytes ≡ g.row.SIZE) × (take (4 * l.k) l.bytes ≡ bytes_in l.message l.state l.k)
