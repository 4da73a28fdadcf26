-- The asks of our own hash requests (BEP 52, "hash request") that are open: no hashes have answered
-- them yet.
use Rattle.std.specs.Prelude.{ℕ, List, refl}
use Rattle.std.specs.Coded.{Coded, code_by, coded×, coded_list, coded_ℕ}
use Rattle.std.specs.declared.cmp.Ordering.{Ordering}
use Rattle.std.specs.Ordering.{nat_cmp, ordering_then}
use Rattle.std.specs.Cmp.Lexicographic.{slice_cmp}
use Rattle.std.specs.FinSet as finite
use Rattle.wire.specs.declared.message.Ask.{Ask}

-- asks in the order of their five fields
abbrev pub ask_cmp : Ask → Ask → Ordering
ask_cmp a b = ordering_then (slice_cmp nat_cmp a.root b.root)
    (ordering_then (nat_cmp a.base b.base)
    (ordering_then (nat_cmp a.index b.index)
    (ordering_then (nat_cmp a.length b.length) (nat_cmp a.proof b.proof))))

-- a finite set of asks: two are the same if all five fields are
abbrev pub AskSet : Type 0
AskSet = finite.FinSet ask_cmp

-- an ask written as its five fields
abbrev ask_code : Coded Ask
ask_code = code_by (List ℕ × (ℕ × (ℕ × (ℕ × ℕ))))
    (coded× (coded_list coded_ℕ) (coded× coded_ℕ (coded× coded_ℕ (coded× coded_ℕ coded_ℕ))))
    (λ a. (a.root, (a.base, (a.index, (a.length, a.proof)))))
    (λ p. record {
      root = p.0;
      base = p.1.0;
      index = p.1.1.0;
      length = p.1.1.1.0;
      proof = p.1.1.1.1;
    })
    (λ _. refl)

-- a set of asks written as one value
abbrev pub asks_code : Coded AskSet
asks_code = finite.code ask_code
