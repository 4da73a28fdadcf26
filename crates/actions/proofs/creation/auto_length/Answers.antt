use Rattle.std.proofs.Common.{arith, rules, ◌<◌, ◌≡◌, ℕ, true, false, nat_lt, refl, subst, sym}
use Rattle.std.specs.Prelude.{max, min}
use Rattle.std.specs.Int.{IsPowerOfTwo}
use Rattle.std.proofs.lemmas.Grind.{div_ceil_times}
use Rattle.actions.proofs.creation.auto_length.Goals as goal

-- a power of two between two others, or the one of them that is nearer
clamped : (power length : ℕ) → IsPowerOfTwo power → length ≡ min (max power 16384) 16777216 → IsPowerOfTwo length
clamped power length is e =
    elim (nat_lt power 16384) as (λ b. nat_lt power 16384 ≡ b → IsPowerOfTwo length) [
      | true ↦ λ low. let same : length ≡ 16384 = grind (arith, low, e) in (14, same)
      | false ↦ λ high. elim (nat_lt 16777216 power) as (λ b. nat_lt 16777216 power ≡ b → IsPowerOfTwo length) [
        | true ↦ λ over. let same : length ≡ 16777216 = grind (arith, high, over, e) in (24, same)
        | false ↦ λ within. let same : length ≡ power = grind (arith, high, within, e) in subst IsPowerOfTwo (sym same) is
      ] refl
    ] refl

pub returns : goal.returns
returns c =
    let enough = div_ceil_times c.args.total 2048 (omega arith) in
    record {
      power = clamped c.next_power_of_two-enough.result c.min.result c.next_power_of_two-enough.ensures.power (omega arith);
      least = search rules;
      most = search rules;
      enough = λ lt. omega arith;
      smallest = λ lt. omega arith;
    }
