use Rattle.std.proofs.Common.{◌≡◌, List, ℕ, Option, Some, None}
use Rattle.benc.proofs.store.Store.push.Goals as goal

pub returns-then-is_err-clause-kept : goal.returns-then-is_err-clause-kept
returns-then-is_err-clause-kept g c = λ kept. absurd (refused_one c.args.start.now kept)
  where
    refused_one : (start : List ℕ) → ◌≡◌ {A = Option (List ℕ)} (Some start) None → ⊥
    refused_one start h = cc
