use Rattle.std.proofs.Common.{◌≡◌, ◌≤◌, ◌-◌, ◌++◌, ℕ, List, take, drop}
use Rattle.benc.specs.Device.{Sent}
use Rattle.printing.specs.Text.{escaped}
use Rattle.printing.proofs.text.write_escaped.Given as goal

-- what is escaped of the bytes so far went out, but for a last part that stands as it is
abbrev pub invariant-bytes : goal.invariant-bytes
invariant-bytes g l =
    (sent : List ℕ) × (l.start ≤ l.i) × (escaped (take l.i l.text) ≡ sent ++ take (l.i - l.start) (drop l.start l.text))
    × Sent (g.W.Sink.seen l.fn.out) (g.W.Sink.seen l.out) sent
