-- Calls that are counted, one of which may be to fail.
use Rattle.std.specs.Prelude.{◌≡◌, ◌≢◌, ℕ, zero, suc, Option, Some, None, Result, OnOk, OnErr}
use Rattle.benc.specs.declared.memory.calls.Calls.{Calls}

-- how many further calls succeed before the one that is to fail, after one more call
abbrev pub after_call : Option ℕ → Option ℕ
after_call None = None
after_call (Some zero) = None
after_call (Some (suc n)) = Some n

-- a call failed exactly if it was the one that was to fail
abbrev pub FailsInTurn : {A E : Type 0} → Calls → Result A E → Type 0
FailsInTurn calls r = OnOk r (calls.before_fault ≢ Some 0) × OnErr r (calls.before_fault ≡ Some 0)
