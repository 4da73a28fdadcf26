-- One more frame, in the lists of a replay.
use Rattle.std.proofs.Common.{◌≡◌, ◌+◌, ◌++◌, ◌||◌, ℕ, suc, Bool, List, [], ◌∷◌, length}
use Rattle.std.proofs.Common.{sym, ap, ◌∙◌, append_assoc, arith}
use Rattle.std.specs.List.{list_any}
use Rattle.std.proofs.lemmas.List.{append-nil, map-append}
use Rattle.std.proofs.lemmas.List.Folds.{list_any-append}
use Rattle.std.proofs.Math.Bool.{or-false}
use Rattle.benc.specs.Device.{SinkSeen, Sent, SentAndFlushed, one_more}
use Rattle.benc.proofs.Known.{Appends-append}
use Rattle.replays.specs.declared.report.Outcome.{Outcome}
use Rattle.replays.specs.Replay.{Handled}
use Rattle.replays.specs.Telling.{Teller}
use Rattle.replays.specs.Replay.{lines_from, told_of}

-- ---- one more frame, in lists

lines_more : {Kept Told : Type 0} (T : Teller Kept Told) (n : ℕ) (hs : List (Handled Told)) (h : Handled Told)
    → lines_from T n (hs ++ h ∷ []) ≡ lines_from T n hs ++ T.lines (n + length hs) h.told
lines_more T n [] h = let same : n ≡ n + 0 = omega arith in append-nil (T.lines n h.told) ∙ ap (λ k. T.lines k h.told) same
lines_more T n (x ∷ hs) h =
    let same : n + 1 + length hs ≡ n + suc (length hs) = omega arith in
    ap (λ t. T.lines n x.told ++ t) (lines_more T (n + 1) hs h ∙ ap (λ k. lines_from T (n + 1) hs ++ T.lines k h.told) same)
    ∙ sym (append_assoc (T.lines n x.told) (lines_from T (n + 1) hs) (T.lines (n + suc (length hs)) h.told))

-- the lines of the frame after these n
pub next_lines : {Kept Told : Type 0} (T : Teller Kept Told) (hs : List (Handled Told)) (h : Handled Told) (n : ℕ) → n ≡ length hs
    → lines_from T 1 (hs ++ h ∷ []) ≡ lines_from T 1 hs ++ T.lines (n + 1) h.told
next_lines T hs h n e =
    let same : 1 + length hs ≡ n + 1 = omega arith in
    lines_more T 1 hs h ∙ ap (λ k. lines_from T 1 hs ++ T.lines k h.told) same

pub any_more : {Told : Type 0} (p : Told → Bool) (hs : List (Handled Told)) (h : Handled Told)
    → list_any p (told_of (hs ++ h ∷ [])) ≡ (list_any p (told_of hs) || p h.told)
any_more {Told} p hs h =
    ap (list_any p) (map-append (λ (x : Handled Told). x.told) hs (h ∷ []))
    ∙ list_any-append p (told_of hs) (h.told ∷ []) ∙ ap (λ b. list_any p (told_of hs) || b) (or-false (p h.told))

pub outcome_same : (o : Outcome) (a b c : Bool) → o.refused ≡ a → o.no_memory ≡ b → o.fault ≡ c → o ≡ record { refused = a; no_memory = b; fault = c }
outcome_same o a b c p q r =
    ap (λ x. record { refused = x; no_memory = o.no_memory; fault = o.fault }) p
    ∙ ap (λ x. record { refused = a; no_memory = x; fault = o.fault }) q ∙ ap (λ x. record { refused = a; no_memory = b; fault = x }) r

-- a text, and then the last line with its flush
pub sent_then_flushed : (a b c : SinkSeen) (text line : List ℕ) → Sent a b text → SentAndFlushed b c line → SentAndFlushed a c (text ++ line)
sent_then_flushed a b c text line sent wrote = record {
  bytes = Appends-append a.written b.written c.written text line sent.bytes wrote.bytes;
  faults = wrote.faults ∙ sent.faults;
  flushes = wrote.flushes ∙ ap one_more sent.flushes;
  last = wrote.last;
}
