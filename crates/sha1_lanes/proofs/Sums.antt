-- The sum of a round.
use Rattle.std.proofs.Common.{◌≡◌, ℕ, ◌+◌, ◌%◌, ◌^◌, arith}

-- the sum of a round, in whatever order its words are added
pub sum_of_round : (turned chosen e constant word : ℕ)
    → ((((word + constant) % 2 ^ 32 + e) % 2 ^ 32 + chosen) % 2 ^ 32 + turned) % 2 ^ 32
    ≡ ((((turned + chosen) % 2 ^ 32 + e) % 2 ^ 32 + constant) % 2 ^ 32 + word) % 2 ^ 32
sum_of_round turned chosen e constant word = omega arith
