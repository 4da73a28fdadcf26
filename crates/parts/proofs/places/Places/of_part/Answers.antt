use Rattle.std.proofs.Common.{ℕ, ap₂}
use Rattle.parts.specs.declared.places.Places.{Places}
use Rattle.parts.proofs.places.Places.of_part.Goals as goal

pub returns : goal.returns
returns c =
    let places : ℕ → ℕ → Places = λ from to. record { from = from; to = to } in
    ap₂ places c.start.ensures c.start-2.ensures
