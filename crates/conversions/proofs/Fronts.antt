-- The first bytes of a record, and what tests on them show.
use Rattle.std.proofs.Common.{◌≡◌, ℕ, ◌+◌, ◌-◌, ◌<◌, ◌≤◌, true, false, nat_eq, List, [], ◌∷◌, ◌++◌, length, take, drop, inl, inr, refl, sym, ap, ◌∙◌, arith}
use Rattle.std.proofs.Common.{subst}
use Rattle.std.specs.Cmp.Lexicographic.{pointwise, same_text}
use Rattle.std.specs.Io.KnownBytes.{Consumes, Keeps}
use Rattle.std.proofs.lemmas.Bool.{and_from, cases_lt, eq-eqb, false≢true}
use Rattle.std.proofs.lemmas.List.{append_assoc, append-nil, length-append, length-drop, nil_from_length, take-append-drop, take-append-le, take_at}
use borrow.Rule.Slice.PartMut.{put_mid}
use Rattle.benc.specs.Device.{SourceSeen, one_more}
use Rattle.wire.specs.declared.fault.FrameFault.TheVariants as fault
use Rattle.wire.specs.Reading.{Gave, GaveFaultless, GaveUntil}
use Rattle.wire.specs.Records.{HasForm, header}
use Rattle.wire.specs.declared.form.Form.TheVariants.{One}
use Rattle.wire.specs.Frames.{IsPartial, four_bytes}
use Rattle.wire.proofs.Partial.{IsPartial-from_short, IsPartial-from_unfinished}
use Rattle.wire.proofs.RecordParts.{longest}
use Rattle.wire.proofs.Giving.{Failed-at_once, Faultless-take, Gave-trans, take-put_more}
use Rattle.conversions.specs.Converting.{IsPrefixOf}
use Rattle.conversions.specs.Steps.{FailsInFront}

same_as_itself : (xs : List ℕ) → pointwise nat_eq xs xs ≡ true
same_as_itself [] = refl
same_as_itself (x ∷ xs) = and_from (nat_eq x x) (pointwise nat_eq xs xs) (eq-eqb x x refl) (same_as_itself xs)

-- a test whether these bytes stand at the front of the header
pub prefix_from : (bytes : List ℕ) → pointwise nat_eq bytes (take (length bytes) header) ≡ true → IsPrefixOf bytes header
prefix_from bytes e =
    let same : bytes ≡ take (length bytes) header = same_text bytes (take (length bytes) header) (sym e) in
    (drop (length bytes) header, sym (take-append-drop (length bytes) header) ∙ ap (λ t. t ++ drop (length bytes) header) (sym same))

pub prefix_is_seen : (bytes : List ℕ) → IsPrefixOf bytes header → pointwise nat_eq bytes (take (length bytes) header) ≡ true
prefix_is_seen bytes p =
    let front : take (length bytes) header ≡ bytes = ap (take (length bytes)) p.1 ∙ take_at bytes p.0 (length bytes) refl in
    ap (pointwise nat_eq bytes) front ∙ same_as_itself bytes

-- reading behind them leaves them
pub take-put_none : (at : ℕ) (old new : List ℕ) → at ≤ length old → take at (put_mid at (length old - at) old new) ≡ take at old
take-put_none at old new within =
    let same : at + 0 ≡ at = omega arith in
    ap (λ n. take n (put_mid at (length old - at) old new)) (sym same) ∙ take-put_more at 0 old new within (omega arith) ∙ append-nil (take at old)

pub fails_in_front : (a b c : SourceSeen) (bytes : List ℕ) → GaveFaultless a b bytes → Keeps b.left c.left → c.limit ≡ b.limit → c.faults ≡ one_more b.faults
    → IsPrefixOf bytes header → FailsInFront a c
fails_in_front a b c bytes gave kept limit counted front =
    let nothing : GaveUntil b c [] fault.Read = Failed-at_once b c fault.Read refl kept limit counted in
    record {
      bytes = bytes;
      gave = subst (Gave a c) (append-nil bytes) (Gave-trans a b c bytes [] gave.gave nothing.gave);
      counted = counted ∙ ap one_more gave.faults;
      prefix = front;
    }

-- a call that gave nothing
pub read_none : (a b : SourceSeen) (count : ℕ) (buf : List ℕ) → count ≡ 0 → Consumes a.left b.left (take count buf) → b.limit + count ≡ a.limit
    → b.faults ≡ a.faults → GaveFaultless a b []
read_none a b count buf none bytes falls faults =
    subst (λ n. GaveFaultless a b (take n buf)) none (Faultless-take a b count buf (omega (arith, none)) bytes falls faults)

-- ---- the form that the first bytes give

prefix_of_front : (front more rest : List ℕ) → length front ≤ 8 → front ++ more ≡ header ++ rest → IsPrefixOf front header
prefix_of_front front more rest short e =
    let n = length front in
    let same : front ≡ take n header = sym (take_at front more n refl) ∙ ap (take n) e ∙ take-append-le n header rest short in
    (drop n header, sym (take-append-drop n header) ∙ ap (λ t. t ++ drop n header) (sym same))

-- eight bytes or more that are no header
one_from_eight : (front more : List ℕ) → 8 ≤ length front → HasForm front One → HasForm (front ++ more) One
one_from_eight front more enough has = λ rest e.
    let same : take 8 front ≡ header = sym (take-append-le 8 front more enough) ∙ ap (take 8) e ∙ take_at header rest 8 refl in
    has (drop 8 front) (sym (take-append-drop 8 front) ∙ ap (λ t. t ++ drop 8 front) same)

pub one_whatever_follows : (front more : List ℕ) → (IsPrefixOf front header → 8 ≤ length front) → HasForm front One → HasForm (front ++ more) One
one_whatever_follows front more shows has = elim (cases_lt (length front) 8) [
  | inl short ↦ λ rest e. absurd (omega (arith, short, shows (prefix_of_front front more rest (omega (arith, short)) e)))
  | inr enough ↦ one_from_eight front more enough has
]

pub no_prefix : (front more : List ℕ) → (IsPrefixOf front header → 8 ≤ length front) → HasForm front One → ¬ IsPrefixOf (front ++ more) header
no_prefix front more shows has = λ p.
    let whole : header ≡ front ++ (more ++ p.0) = p.1 ∙ append_assoc front more p.0 in
    let enough : 8 ≤ length front = shows (more ++ p.0, whole) in
    let none : more ++ p.0 ≡ [] = nil_from_length (more ++ p.0) (omega (arith, enough, ap length whole, length-append front (more ++ p.0))) in
    has [] (sym (append-nil front) ∙ ap (λ t. front ++ t) (sym none) ∙ sym whole)

pub one_from_test : (bytes : List ℕ) → pointwise nat_eq header (take 8 bytes) ≡ false → HasForm bytes One
one_from_test bytes e = λ rest is.
    let same : take 8 bytes ≡ header = ap (take 8) is ∙ take_at header rest 8 refl in
    absurd (false≢true (sym e ∙ ap (pointwise nat_eq header) same ∙ same_as_itself header))

-- less than a header is less than a frame
pub prefix_partial : (bytes : List ℕ) → length bytes < 8 → IsPrefixOf bytes header → IsPartial bytes
unfolding four_bytes
prefix_partial bytes short p = elim (cases_lt (length bytes) 4) [
  | inl few ↦ IsPartial-from_short bytes few
  | inr four ↦
      let front : take 4 bytes ≡ four_bytes 4294967295 = sym (take-append-le 4 bytes p.0 four) ∙ ap (take 4) (sym p.1 ∙ longest) in
      let whole : four_bytes 4294967295 ++ drop 4 bytes ≡ bytes = ap (λ t. t ++ drop 4 bytes) (sym front) ∙ take-append-drop 4 bytes in
      subst IsPartial whole (IsPartial-from_unfinished 4294967295 (drop 4 bytes) (omega arith) (omega (arith, short, length-drop 4 bytes)))
]
