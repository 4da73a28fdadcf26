use Rattle.std.proofs.Common.{◌∷◌, ◌++◌, [], codes, decimal, refl}
use Rattle.part_reports.proofs.Fronts.{same_pair}
use Rattle.part_reports.proofs.runs.run_numbers.Goals as goal

pub returns-in_err-first : goal.returns-in_err-first
returns-in_err-first c n m has =
    let none = c.in_err-first.ensures (codes "bad pieces ") n 32 (decimal m ++ 32 ∷ has.more) refl has.small refl has.is in
    (let x : ⊥ = cc in absurd x)

pub returns-in_err-last : goal.returns-in_err-last
returns-in_err-last c n m has =
    let first = same_pair c.in_ok-first.first n c.in_ok-first.behind.now (32 ∷ (decimal m ++ 32 ∷ has.more))
    (c.in_ok-first.ensures (codes "bad pieces ") n 32 (decimal m ++ 32 ∷ has.more) refl has.small refl has.is) in
    let none = c.in_err-last.ensures (32 ∷ []) m 32 has.more refl has.short refl first.1 in
    (let x : ⊥ = cc in absurd x)

pub returns : goal.returns
returns c n m has =
    let first = same_pair c.in_ok-first.first n c.in_ok-first.behind.now (32 ∷ (decimal m ++ 32 ∷ has.more))
    (c.in_ok-first.ensures (codes "bad pieces ") n 32 (decimal m ++ 32 ∷ has.more) refl has.small refl has.is) in (
      first.0,
      (same_pair c.in_ok-last.last m c.in_ok-last.field-0-1.now (32 ∷ has.more)
          (c.in_ok-last.ensures (32 ∷ []) m 32 has.more refl has.short refl first.1)).0,
    )
