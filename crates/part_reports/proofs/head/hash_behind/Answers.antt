use Rattle.std.proofs.Common.{◌≡◌, ◌++◌, ◌∷◌, ◌∙◌, ℕ, List, Result, Ok, Err, Some, length, take, drop, ap, subst, arith}
use Rattle.std.specs.Result.{MatchResult}
use Rattle.std.proofs.lemmas.List.{length-append, take_at}
use Rattle.hex.specs.Hex.{decode_sized, encode_lower, lower_digits}
use Rattle.hex.specs.declared.error.FromHexError.{FromHexError}
use Rattle.hex.proofs.HexLemmas.{decode_sized-encode_lower, length-encode_with}
use Rattle.part_reports.specs.Heads.{IsInfoHash}
use Rattle.part_reports.proofs.head.hash_behind.Goals as goal

digits_count : (hash : List ℕ) → IsInfoHash hash → length (encode_lower hash) ≡ 64
digits_count hash of = let digits = length-encode_with lower_digits hash in omega (arith, digits, of.count)

-- the digits of an info-hash are decoded to it
decoded : (text hash more out : List ℕ) (byte : ℕ) (res : Result (Unit {0}) FromHexError) → IsInfoHash hash → text ≡ byte ∷ (encode_lower hash ++ more)
    → MatchResult (decode_sized (take 64 (drop 1 text)) 32) (λ bytes. (res ≡ Ok tt) × (out ≡ bytes)) (λ e. res ≡ Err e)
    → (res ≡ Ok tt) × (out ≡ hash)
decoded text hash more out byte res of is read =
    let digits : take 64 (drop 1 text) ≡ encode_lower hash = ap (λ t. take 64 (drop 1 t)) is ∙ take_at (encode_lower hash) more 64 (digits_count hash of) in
    subst (λ r. MatchResult r (λ bytes. (res ≡ Ok tt) × (out ≡ bytes)) (λ e. res ≡ Err e))
    (ap (λ d. decode_sized d 32) digits ∙ decode_sized-encode_lower hash 32 of.count of.bytes) read

pub returns-then-text-lt65 : goal.returns-then-text-lt65
returns-then-text-lt65 c = λ byte hash more of is.
    let digits = digits_count hash of in
    let whole = ap length is in
    let parts = length-append (encode_lower hash) more in
    absurd (omega (arith, digits, whole, parts, c.if-text-lt65.true))

pub returns-in-Ok : goal.returns-in-Ok
returns-in-Ok c = λ byte hash more of is.
    ap Some (decoded c.args.text.now hash more c.decode_to_slice.new.out byte (Ok c.in-Ok.field-0) of is c.in-Ok.ensures.value).1

pub returns-in-Err : goal.returns-in-Err
returns-in-Err c = λ byte hash more of is.
    let ok = (decoded c.args.text.now hash more c.decode_to_slice.new.out byte (Err c.in-Err.field-0) of is c.in-Err.ensures.value).0 in
    (let x : ⊥ = cc in absurd x)
