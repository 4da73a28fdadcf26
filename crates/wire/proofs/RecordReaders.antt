-- A reader of records that answered a frame was open.
use Rattle.std.proofs.Common.{◌≡◌, Bool, true, false, Result, Ok, Err, refl, sym, ◌∙◌}
use Rattle.wire.specs.declared.fault.FrameFault.{FrameFault}
use Rattle.wire.specs.declared.reader.State.{State}
use Rattle.wire.specs.declared.reader.State.TheVariants.{Open, Ended, Failed}

pub was_open : (s : State) (r : Result Bool FrameFault) → (s ≡ Ended → r ≡ Ok false) → ((why : FrameFault) → s ≡ Failed why → r ≡ Err why) → r ≡ Ok true
    → s ≡ Open
was_open Open r ended failed is = refl
was_open Ended r ended failed is = let both : Ok false ≡ Ok true = sym (ended refl) ∙ is in let no : ⊥ = cc in absurd no
was_open (Failed why) r ended failed is = let both : Err why ≡ Ok true = sym (failed why refl) ∙ is in let no : ⊥ = cc in absurd no
