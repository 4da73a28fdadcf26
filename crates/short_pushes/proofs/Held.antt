-- The bytes that wait.
use Rattle.std.proofs.Common.{◌≡◌, ◌∙◌, length, arith}
use Rattle.std.proofs.lemmas.List.{length-take}
use Rattle.short_pushes.specs.Held.{held}
use Rattle.short_pushes.specs.declared.waiting.Waiting.{Waiting}

-- as many wait as are counted
pub held_count : (w : Waiting) → length (held w) ≡ w.count
held_count w = length-take w.count w.room.items ∙ omega (arith, w.few, w.whole, w.room.ok.0)
