-- What a source gave in several calls.
use Rattle.std.proofs.Common.{◌≡◌, ℕ, ◌+◌, ◌-◌, ◌≤◌, List, [], ◌++◌, length, take, drop, arith, ap, subst, sym, ◌∙◌}
use Rattle.std.proofs.lemmas.List.{length-append, length-take-le, take-append-le, take_all, take-take}
use Rattle.std.proofs.Math.Seq.{take-append-add}
use borrow.Rule.Slice.PartMut.{put_mid}
use Rattle.std.specs.Io.KnownBytes.{Consumes, Keeps}
use Rattle.std.proofs.KnownBytes.{Consumes-nil, Consumes-trans, Consumes-kept}
use Rattle.benc.specs.Device.{SourceSeen, one_more}
use Rattle.wire.specs.declared.fault.FrameFault.{FrameFault}
use Rattle.wire.specs.declared.fault.FrameFault.TheVariants as fault
use Rattle.wire.specs.Reading.{CountsRead, Gave, GaveFaultless, GaveUntil}

pub Gave-nil : (s : SourceSeen) → Gave s s []
Gave-nil s = record { given = Consumes-nil s.left; falls = omega arith }

pub Gave-trans : (a b c : SourceSeen) (xs ys : List ℕ) → Gave a b xs → Gave b c ys → Gave a c (xs ++ ys)
Gave-trans a b c xs ys p q = record {
  given = Consumes-trans a.left b.left c.left xs ys p.given q.given;
  falls = omega (arith, p.falls, q.falls, length-append xs ys);
}

-- some calls, and then others, of which the last may have failed
pub Gave-until : (a b c : SourceSeen) (xs ys : List ℕ) (why : FrameFault) → GaveFaultless a b xs → GaveUntil b c ys why → GaveUntil a c (xs ++ ys) why
Gave-until a b c xs ys why p q = record {
  gave = Gave-trans a b c xs ys p.gave q.gave;
  faults = subst (λ n. CountsRead n c.faults why) p.faults q.faults;
  ended = q.ended;
  no_direction = q.no_direction;
}

-- a call that failed gave nothing
pub Failed-at_once : (b c : SourceSeen) (why : FrameFault) → why ≡ fault.Read → Keeps b.left c.left → c.limit ≡ b.limit → c.faults ≡ one_more b.faults
    → GaveUntil b c [] why
Failed-at_once b c why e p q n = record {
  gave = record { given = Consumes-kept b.left b.left c.left [] (Consumes-nil b.left) p; falls = omega (arith, q) };
  faults = subst (CountsRead b.faults c.faults) (sym e) n;
  ended = λ t. let no : ⊥ = cc in absurd no;
  no_direction = λ t. let no : ⊥ = cc in no;
}

-- one read
pub Gave-take : (a b : SourceSeen) (n : ℕ) (buf : List ℕ) → n ≤ length buf → Consumes a.left b.left (take n buf) → b.limit + n ≡ a.limit → Gave a b (take n buf)
Gave-take a b n buf fits p e = record { given = p; falls = omega (arith, e, length-take-le n buf fits) }

pub Faultless-trans : (a b c : SourceSeen) (xs ys : List ℕ) → GaveFaultless a b xs → GaveFaultless b c ys → GaveFaultless a c (xs ++ ys)
Faultless-trans a b c xs ys p q = record { gave = Gave-trans a b c xs ys p.gave q.gave; faults = q.faults ∙ p.faults }

pub Faultless-take : (a b : SourceSeen) (n : ℕ) (buf : List ℕ) → n ≤ length buf → Consumes a.left b.left (take n buf) → b.limit + n ≡ a.limit
    → b.faults ≡ a.faults → GaveFaultless a b (take n buf)
Faultless-take a b n buf fits p e q = record { gave = Gave-take a b n buf fits p e; faults = q }

-- what stands in a buffer after one more read into its rest
pub take-put_more : {X : Type 0} (at n : ℕ) (old new : List X) → at ≤ length old → n ≤ length new
    → take (at + n) (put_mid at (length old - at) old new) ≡ take at old ++ take n new
take-put_more at n old new within fits =
    let rest = drop (length old - at) (drop at old) in
    let len : length (take at old) ≡ at = length-take-le at old within in
    ap (λ k. take (k + n) (take at old ++ (new ++ rest))) (sym len)
    ∙ take-append-add (take at old) (new ++ rest) n ∙ ap (λ t. take at old ++ t) (take-append-le n new rest fits)

pub le-length-put : {X : Type 0} (at n : ℕ) (old new : List X) → at ≤ length old → n ≤ length new → at + n ≤ length (put_mid at (length old - at) old new)
le-length-put at n old new within fits =
    let rest = drop (length old - at) (drop at old) in
    omega (arith, length-append (take at old) (new ++ rest), length-append new rest, length-take-le at old within)

-- the rest is filled
pub take-put_all : {X : Type 0} (at whole : ℕ) (old new : List X) → length old ≡ whole → at ≤ whole → length new ≡ whole - at
    → take whole (put_mid at (whole - at) old new) ≡ take at old ++ new
take-put_all at whole old new size within len =
    let fits : whole - at ≤ length new = omega (arith, len) in
    let is : at + (whole - at) ≡ whole = omega (arith, within) in
    let more = take-put_more at (whole - at) old new (omega arith) fits in
    ap (λ k. take k (put_mid at (whole - at) old new)) (sym is) ∙ ap (λ k. take (at + (whole - at)) (put_mid at (k - at) old new)) (sym size) ∙ more
    ∙ ap (λ t. take at old ++ t) (take_all (whole - at) new (omega arith))

-- the front of a vector whose elements were all written
pub take-written : {X : Type 0} (count n : ℕ) (new items : List X) → count ≤ n → count ≤ length new
    → take count (take n (new ++ drop (length new) items)) ≡ take count new
take-written count n new items within fits =
    take-take count n (new ++ drop (length new) items) within ∙ take-append-le count new (drop (length new) items) fits
