use Rattle.std.proofs.Common.{◌≡◌, ℕ, List, refl, ◌<◌, ◌^◌, length, get_or, inl, inr, subst, sym, ◌∙◌, arith, MatchBool}
use Rattle.std.proofs.lemmas.Bool.{cases_Bool, false≢true, le-ltb}
use Rattle.wire.specs.Meaning.{IsHashesSize}
use Rattle.conversions.specs.Steps.{BeginsHashes}
use Rattle.conversions.proofs.Opening.{begins_as, begins_none, begins_with, read_len}
use Rattle.conversions.proofs.head.begins_hashes.Goals as goal

abbrev IsRightBody : List ℕ → ℕ → Type 0
IsRightBody head len = (get_or head 4 0 ≡ 22) × IsHashesSize len

pub returns-then-head-gt4 : goal.returns-then-head-gt4
returns-then-head-gt4 c = λ len front fits is.
    let bound : c.number_at.result < 2 ^ 32 = omega (arith, c.number_at.type_inv) in
    let same : c.number_at.result ≡ len = read_len c.number_at.result len c.args.head.now front bound fits is c.number_at.ensures in
    elim (cases_Bool c.is_hashes.result) [
      | inl yes' ↦ subst (λ b. MatchBool b (BeginsHashes len front) (¬ BeginsHashes len front)) (sym yes')
          (begins_with len _ c.args.head.now front is c.if-head-gt4.true refl (subst (IsRightBody c.args.head.now) same (c.is_hashes.ensures.0 yes')))
      | inr no' ↦ subst (λ b. MatchBool b (BeginsHashes len front) (¬ BeginsHashes len front)) (sym no')
          (λ b. absurd (false≢true (sym no' ∙ c.is_hashes.ensures.1
          (subst (IsRightBody c.args.head.now) (sym same) (begins_as len _ c.args.head.now front is refl b)))))
    ]

pub returns-else-head-gt4 : goal.returns-else-head-gt4
returns-else-head-gt4 c = λ len front fits is.
    subst (λ b. MatchBool b (BeginsHashes len front) (¬ BeginsHashes len front)) (sym (le-ltb 4 (length c.args.head.now) c.if-head-gt4.false))
    (begins_none len c.args.head.now front is c.if-head-gt4.false)
