-- Runs of digits and their numbers.
use Rattle.std.proofs.Common.{◌≡◌, ℕ, ◌+◌, ◌-◌, ◌*◌, ◌<◌, ◌≤◌, List, length, get_or, take, ap, ◌∙◌, arith}
use Rattle.std.specs.Prelude.{IsTrue}
use Rattle.std.specs.Char.{digit_value}
use Rattle.std.specs.List.{prefix_len}
use Rattle.std.specs.Str.Parse.{digits_value}
use Rattle.std.proofs.lemmas.Int.Digits.{digits_value_more}
use Rattle.std.proofs.lemmas.Str.Parse.{digits_value-take-le}
use Rattle.std.proofs.lemmas.List.{get_or-take}
use Rattle.std.proofs.lemmas.List.Folds.{length-prefix_len}
use Rattle.std.proofs.lemmas.List.Sums.{prefix_len_passes}
use Rattle.std.proofs.lemmas.Bool.Decides.{nat_tests}
use Rattle.benc.specs.Digits.{is_digit, IsDigitRun, digits_of_front}

pub digit_low : (c : ℕ) → IsTrue (is_digit c) → 48 ≤ c
digit_low c h = grind (arith, nat_tests)

pub digit_high : (c : ℕ) → IsTrue (is_digit c) → c ≤ 57
digit_high c h = grind (arith, nat_tests)

pub digit_value_is : (c : ℕ) → IsTrue (is_digit c) → digit_value c ≡ c - 48
digit_value_is c h = let low = digit_low c h in let high = digit_high c h in grind (arith, nat_tests, low, high)

pub run_step : (run : List ℕ) (i : ℕ) → IsDigitRun run → i < length run
    → digits_value 10 (take (i + 1) run) ≡ digits_value 10 (take i run) * 10 + (get_or run i 0 - 48)
run_step run i digits lt = digits_value_more 10 run i lt ∙ ap (λ d. digits_value 10 (take i run) * 10 + d) (digit_value_is (get_or run i 0) (digits i lt))

pub run_le : (run : List ℕ) (i : ℕ) → digits_value 10 (take i run) ≤ digits_value 10 run
run_le run i = digits_value-take-le 10 run i (omega arith)

pub front_is_run : (bytes : List ℕ) → IsDigitRun (digits_of_front bytes)
front_is_run bytes i lt =
    let below : i < prefix_len is_digit bytes = omega (arith, length-prefix_len is_digit bytes) in
    rw (get_or-take (prefix_len is_digit bytes) bytes i 0 below) (prefix_len_passes is_digit bytes i 0 below)
