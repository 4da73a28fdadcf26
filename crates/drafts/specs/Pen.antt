-- What a pen has done to a text. Public clauses do not name these.
use Rattle.std.specs.Prelude.{◌≡◌, ℕ, ◌+◌, ◌-◌, ◌^◌, ◌⊎◌, List, length, min}
use Rattle.benc.specs.Device.{Broke, Sent, SinkSeen}
use Rattle.drafts.specs.declared.pen.Pen.{Pen}
use Rattle.drafts.specs.declared.pen.Pen.TheVariants.{Measuring, Writing, Broken}

-- this text has passed: its bytes were counted, up to the greatest number of 64 bits; or it was
-- written, or a prefix of it before the sink failed; or the sink had failed before
pub record Put (p : Pen) (s : SinkSeen) (q : Pen) (t : SinkSeen) (text : List ℕ) : Type 0 where
  pub measured : (m : ℕ) → p ≡ Measuring m
      → (n : ℕ) × (q ≡ Measuring n) × (min n (2 ^ 64 - 1) ≡ min (m + length text) (2 ^ 64 - 1))
      × (t ≡ s)
  pub written : p ≡ Writing
      → ((q ≡ Writing) × Sent s t text) ⊎ ((q ≡ Broken) × Broke s t text)
  pub broken : p ≡ Broken → (q ≡ Broken) × (t ≡ s)
