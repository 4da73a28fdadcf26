use Rattle.std.proofs.Common.{ℕ, List, Some, ap₂, ◌∙◌, ◌≡◌, ◌∷◌}
use Rattle.std.proofs.lemmas.Option.{same_Some}
use Rattle.part_reports.proofs.Fronts.{front_digits}
use Rattle.part_reports.proofs.words.split_number.Goals as goal

pub returns-in_err-number : goal.returns-in_err-number
returns-in_err-number c n d more small stops is =
    let front = front_digits c.args.text.now n d c.digit_count.result more small stops is c.digit_count.ensures.value in
    let read = c.in_err-number.ensures n small (c.split_at.ensures.front ∙ front.0) in
    let x : ⊥ = cc in absurd x

pub returns : goal.returns
returns c n d more small stops is =
    let front = front_digits c.args.text.now n d c.digit_count.result more small stops is c.digit_count.ensures.value in
    let read : c.in_ok-number.number ≡ n = same_Some c.in_ok-number.number n (c.in_ok-number.ensures n small (c.split_at.ensures.front ∙ front.0)) in
    let back : c.split_at.result.1.now ≡ d ∷ more = c.split_at.ensures.back ∙ front.1 in
    let pair : ℕ → List ℕ → ℕ × List ℕ = λ a b. (a, b) in
    ap₂ (λ a b. Some (pair a b)) read back
