-- Where content ends before the pieces that are checked do.
use Rattle.std.proofs.Common.{◌≡◌, inl, inr, ℕ, ◌+◌, ◌-◌, ◌*◌, ◌/◌, ◌%◌, ◌^◌, ◌<◌, ◌≤◌, List, length}
use Rattle.std.proofs.Common.{ap, sym, ◌∙◌, subst₂, arith}
use Rattle.std.specs.Int.{bit_at}
use Rattle.std.proofs.lemmas.Bool.{cases_lt}
use Rattle.std.proofs.lemmas.List.{get_or_past}
use Rattle.std.proofs.lemmas.Nat.Bits.{bit_at-zero}
use Rattle.hashtree.specs.Bits.{AreClear, bit_of}
use Rattle.short_pushes.specs.RowChecks as rows
use Rattle.btcheck_c.specs.FileChecks.{IsShortFile, check_bytes_left}
use Rattle.btcheck_c.specs.declared.file_check.FileCheck.{FileCheck}
use Rattle.btcheck_c.proofs.FilePieces.{one_node}
use Rattle.pieces.specs.Marks.{AreMarkedWhole}

-- bits of which none is set are clear, and so are those past the end
clear_of : (bits : List ℕ) → ((k : ℕ) → k < 8 * length bits → bit_of bits k ≡ 1 → ⊥) → AreClear bits
clear_of bits unset k = elim (cases_lt k (8 * length bits)) [
  | inl lt ↦ elim (cases_lt 0 (bit_of bits k)) [
    | inl some ↦ absurd (unset k lt (omega (arith, some, below k)))
    | inr none ↦ omega (arith, none)
  ]
  | inr past ↦ ap (λ b. bit_at b (7 - k % 8)) (get_or_past bits (k / 8) 0 (omega (arith, past))) ∙ bit_at-zero (7 - k % 8)
]
  where
    below : (k : ℕ) → bit_of bits k < 2
    below k = omega arith

-- a piece is longer than bytes that are less than one
too_long : (n shape layer k : ℕ) → n < shape → shape ≤ 16384 * 2 ^ layer → 16384 * ((k + 1) * 2 ^ layer) ≤ n → ⊥
too_long n shape layer k less few le =
    let next : (k + 1) * 2 ^ layer ≡ k * 2 ^ layer + 2 ^ layer = omega arith in
    omega (arith, less, few, le, next)

-- pieces that are cut: the bits tell which of them are whole and good, and the only one of a file is not there
pub short_of : (c : FileCheck) (marked good : List ℕ) → 0 < check_bytes_left c
    → ((content : List ℕ) → rows.IsGivenRow c.check marked content → AreMarkedWhole good (rows.hashes_of_row c.check) (rows.layer_of_row c.check) content)
    → IsShortFile c marked good
short_of c marked good some bits = λ p e from to content a given.
    let shape = rows.shape_of_row c.check in let layer = rows.layer_of_row c.check in
    let less : length content < shape = omega (arith, some, given.length_is) in record {
      short = omega (arith, less, a.size);
      one = λ short. clear_of good (λ k lt is.
          too_long (length content) shape layer k less (one_node shape layer (sym c.check.whole ∙ (a.one short).1)) ((bits content given k lt).0 is).0);
      many = λ longer. subst₂ (λ l h. AreMarkedWhole good h l content) a.layer (a.many longer).hashes (bits content given);
    }
