-- A text that goes out before the last line.
use Rattle.std.proofs.Common.{◌≡◌, ◌⊎◌, ◌++◌, ℕ, List, Result, Err, ◌∙◌, ap, refl, subst, inl, inr}
use Rattle.std.specs.Io.KnownBytes.{Appends}
use Rattle.benc.specs.Device.{SinkSeen, Sent, Broke, BrokeOrUnflushed, SentAndFlushed, WroteAndFlushed, one_more}
use Rattle.benc.proofs.Known.{Appends-append}
use Rattle.benc.proofs.Out.{Broke-append, Broke-front}
use Rattle.replays.proofs.MoreFrames.{sent_then_flushed}

broke_early : (a b : SinkSeen) (x y : List ℕ) → Broke a b x → BrokeOrUnflushed a b (x ++ y)
broke_early a b x y broke =
    let all = Broke-front a b x y broke in
    record { bytes = all.bytes; faults = all.faults; flushes = inl all.flushes }

flushed_late : (a b c : SinkSeen) (x y : List ℕ) → Sent a b x
    → (c.flushes ≡ b.flushes) ⊎ (Appends b.written c.written y × (c.flushes ≡ one_more b.flushes))
    → (c.flushes ≡ a.flushes) ⊎ (Appends a.written c.written (x ++ y) × (c.flushes ≡ one_more a.flushes))
flushed_late a b c x y sent (inl same) = inl (same ∙ sent.flushes)
flushed_late a b c x y sent (inr (went, more)) =
    inr (Appends-append a.written b.written c.written x y sent.bytes went, more ∙ ap one_more sent.flushes)

broke_late : (a b c : SinkSeen) (x y : List ℕ) → Sent a b x → BrokeOrUnflushed b c y → BrokeOrUnflushed a c (x ++ y)
broke_late a b c x y sent broke = record {
  bytes = (Broke-append a b (record c { flushes = b.flushes }) x y sent (record { bytes = broke.bytes; faults = broke.faults; flushes = refl })).bytes;
  faults = broke.faults ∙ ap one_more sent.faults;
  flushes = flushed_late a b c x y sent broke.flushes;
}

-- ---- what a call answers then

-- the text broke off
pub breaks_early : {A E : Type 0} (r : Result A E) (f : E) (a b : SinkSeen) (x y : List ℕ) → r ≡ Err f → Broke a b x → WroteAndFlushed a b r (x ++ y)
breaks_early r f a b x y is broke = rw is (broke_early a b x y broke)

-- the last line broke off, or its flush failed
pub breaks_late : {A E : Type 0} (r : Result A E) (f : E) (a b c : SinkSeen) (x line y : List ℕ) → r ≡ Err f → Sent a b x → line ≡ y
    → BrokeOrUnflushed b c line → WroteAndFlushed a c r (x ++ y)
breaks_late r f a b c x line y is sent same broke = rw is (broke_late a b c x y sent (subst (BrokeOrUnflushed b c) same broke))

-- all went out
pub ends_whole : (a b c : SinkSeen) (x line y : List ℕ) → Sent a b x → line ≡ y → SentAndFlushed b c line → SentAndFlushed a c (x ++ y)
ends_whole a b c x line y sent same wrote = sent_then_flushed a b c x y sent (subst (SentAndFlushed b c) same wrote)
