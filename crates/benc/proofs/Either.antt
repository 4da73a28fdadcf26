-- Each list of bytes spells a value or has a fault.
use Rattle.std.proofs.Common.{◌≡◌, ℕ, ◌-◌, List, [], ◌∷◌, ◌++◌, length, Ok, Err, ◌⊎◌, inl, inr, refl, sym, ◌∙◌, subst, arith}
use Rattle.std.proofs.lemmas.List.{append-nil}
use Rattle.benc.specs.declared.fault.FaultKind.{FaultKind}
use Rattle.benc.specs.declared.fault.FaultKind.TheVariants.{Trailing}
use Rattle.benc.specs.Value.{Bencode}
use Rattle.benc.specs.Spelling.{Spells, Spelled}
use Rattle.benc.specs.Fails.{Fails}
use Rattle.benc.specs.Parser.{Parsed, value_at}
use Rattle.benc.proofs.Sound.{value_takes}
use Rattle.benc.proofs.Faults.{value_stops, stops_from}

abbrev Answer : List ℕ → Type 0
Answer b = ((v : Bencode) × Spells v b) ⊎ ((kind : FaultKind) × (offset : ℕ) × Fails b kind offset)

pub value_or_fault : (b : List ℕ) → Answer b
value_or_fault b = by_reading (value_at 128 b) refl
  where
    by_rest : (v : Bencode) (front rest : List ℕ) → b ≡ front ++ rest → Spelled 128 v front → Answer b
    by_rest v front [] e s = inl (v, subst (λ t. Spelled 128 v t) (sym (e ∙ append-nil front)) s)
    by_rest v front (c ∷ rest) e s = inr (
      Trailing,
      length front,
      inr (record { value = v; front = front; rest = c ∷ rest; parts = e; place = refl; spells = s; more = omega arith; is = refl }),
    )

    by_reading : (r : Parsed Bencode) → value_at 128 b ≡ r → Answer b
    by_reading (Ok x) h = let t = value_takes 128 b x h in by_rest x.0 t.0 x.1 t.1 t.2
    by_reading (Err e) h = inr (e.0, length b - length e.1, inl (stops_from 128 b e (length b - length e.1) refl refl (value_stops 128 b e h)))
