-- What a session was given of a file.
use Rattle.std.proofs.Common.{◌≡◌, ℕ, false, List, Option, Some, None, Result, Ok, Err, IfErr, IfOk, refl}
use Rattle.std.specs.Prelude.{is_ok}
use Rattle.partial_tree.specs.declared.refusal.HashRefusal.{HashRefusal}
use Rattle.partial_tree.specs.declared.refusal.HashRefusal.TheVariants.{Mismatch}
use Rattle.seeding.specs.Passing.{FillsByTree}
use Rattle.seeding.specs.Seeding.{FillsLeaves}
use Rattle.session.specs.Session.{IsFilled, IsFillRefused, SessionSeen}

pub fills_some : (K K' : SessionSeen) (n : ℕ) (leaves : List (List ℕ)) (r : Result ℕ HashRefusal) → IfOk r (λ c. IsFilled K n 0 leaves c K')
    → IfErr r (λ why. IsFillRefused K n 0 leaves why × (K' ≡ K)) → IfErr r (λ why. why ≡ Mismatch) → FillsLeaves K n (Some leaves) (is_ok r) K'
fills_some K K' n leaves (Ok count) filled refused why = (count, filled)
fills_some K K' n leaves (Err r) filled refused why = (r, λ is. let no : ⊥ = cc in absurd no, refused.0, refused.1)

pub fills_none : (K : SessionSeen) (tree : Option ℕ) → FillsByTree K tree None false K
fills_none K None = (refl, refl)
fills_none K (Some n) = (refl, refl)
