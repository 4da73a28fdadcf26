-- One part of a text after the other.
use Rattle.std.proofs.Common.{◌≡◌, ℕ, ◌+◌, ◌-◌, ◌^◌, List, [], ◌++◌, length, min, Result, Ok, Err, inl, inr, refl, sym, ap, subst, ◌∙◌, append_assoc, arith}
use Rattle.std.proofs.Common.{length-append}
use Rattle.std.proofs.lemmas.List.{append-nil}
use Rattle.std.specs.Io.KnownBytes.{Keeps}
use Rattle.std.specs.Prelude.{OnOk, true}
use Rattle.benc.specs.Device.{Broke, CountsFault, Sent, SinkSeen, WroteAndFlushed, one_more}
use Rattle.benc.proofs.Known.{Appends-keeps, Appends_nothing, Appends_whole}
use Rattle.benc.proofs.Out.{Broke-append, Broke-front, Sent-append}
use Rattle.drafts.specs.Pen.{Put}
use Rattle.drafts.specs.declared.pen.Pen.{Pen}

-- the same text
pub put_as : {p q : Pen} {s t : SinkSeen} {x : List ℕ} (y : List ℕ) → Put p s q t x → x ≡ y → Put p s q t y
put_as {p} {q} {s} {t} y put e = subst (λ z. Put p s q t z) e put

added : (m n k : ℕ) (x y : List ℕ) → min n (2 ^ 64 - 1) ≡ min (m + length x) (2 ^ 64 - 1) → min k (2 ^ 64 - 1) ≡ min (n + length y) (2 ^ 64 - 1)
    → min k (2 ^ 64 - 1) ≡ min (m + length (x ++ y)) (2 ^ 64 - 1)
added m n k x y e f = omega (arith, e, f, length-append x y)

-- one part behind the other
pub put_both : {p q r : Pen} {s t u : SinkSeen} {x y : List ℕ} → Put p s q t x → Put q t r u y → Put p s r u (x ++ y)
put_both {p} {q} {r} {s} {t} {u} {x} {y} a b = record {
  measured = λ m is.
      let one = a.measured m is in
      let two = b.measured one.0 one.1 in
      (two.0, two.1, added m one.0 two.0 x y one.2 two.2, two.3 ∙ one.3);
  written = λ is. elim (a.written is) [
    | inl sent ↦ elim (b.written sent.0) [
      | inl both ↦ inl (both.0, Sent-append s t u x y sent.1 both.1)
      | inr broke ↦ inr (broke.0, Broke-append s t u x y sent.1 broke.1)
    ]
    | inr broke ↦
        let later = b.broken broke.0 in
        inr (later.0, subst (λ v. Broke s v (x ++ y)) (sym later.1) (Broke-front s t x y broke.1))
  ];
  broken = λ is. let one = a.broken is in let two = b.broken one.0 in (two.0, two.1 ∙ one.1);
}

-- no part
pub put_none : (p : Pen) (s : SinkSeen) → Put p s p s []
put_none p s = record {
  measured = λ m is. (m, is, omega arith, refl);
  written = λ is. inl (is, record { bytes = Appends_nothing s.written; faults = refl; flushes = refl });
  broken = λ is. (is, refl);
}

-- ---- a text that is put from front to end: so far all of it but this rest
pub record SoFar (p : Pen) (s : SinkSeen) (q : Pen) (t : SinkSeen) (whole rest : List ℕ) : Type 0 where
  pub done : List ℕ
  pub split : whole ≡ done ++ rest
  pub put : Put p s q t done

pub put_start : (p : Pen) (s : SinkSeen) {whole rest : List ℕ} → whole ≡ rest → SoFar p s p s whole rest
put_start p s e = record { done = []; split = e; put = put_none p s }

pub put_on : {p q r : Pen} {s t u : SinkSeen} {whole rest piece : List ℕ} (next : List ℕ) → SoFar p s q t whole rest → Put q t r u piece → rest ≡ piece ++ next
    → SoFar p s r u whole next
put_on {piece = piece} next far put e = record {
  done = far.done ++ piece;
  split = far.split ∙ ap (λ x. far.done ++ x) e ∙ sym (append_assoc far.done piece next);
  put = put_both far.put put;
}

pub put_last : {p q r : Pen} {s t u : SinkSeen} {whole rest piece : List ℕ} → SoFar p s q t whole rest → Put q t r u piece → rest ≡ piece → Put p s r u whole
put_last {whole = whole} far put e = put_as whole (put_both far.put put) (sym (far.split ∙ ap (λ x. far.done ++ x) e))

pub put_all : {p q : Pen} {s t : SinkSeen} {whole rest : List ℕ} → SoFar p s q t whole rest → rest ≡ [] → Put p s q t whole
put_all {whole = whole} far end = put_as whole far.put (sym (far.split ∙ ap (λ x. far.done ++ x) end ∙ append-nil far.done))

-- ---- a text that was written, and then a flush

pub then_flushed : {A E : Type 0} (r : Result A E) (s t u : SinkSeen) (text : List ℕ) → Sent s t text → Keeps t.written u.written → OnOk r (u.is_flushed ≡ true)
    → CountsFault t.faults u.faults r
    → u.flushes ≡ one_more t.flushes → WroteAndFlushed s u r text
then_flushed (Ok x) s t u text sent keeps last counts once = record {
  bytes = Appends-keeps s.written t.written u.written text sent.bytes keeps;
  faults = counts ∙ sent.faults;
  flushes = once ∙ ap one_more sent.flushes;
  last = last;
}
then_flushed (Err e) s t u text sent keeps last counts once = record {
  bytes = Appends_whole s.written t.written u.written text sent.bytes keeps;
  faults = counts ∙ ap one_more sent.faults;
  flushes = inr (Appends-keeps s.written t.written u.written text sent.bytes keeps, once ∙ ap one_more sent.flushes);
}
