-- The numbers that a draft's refusals have.
use Rattle.std.specs.Prelude.{◌≡◌, ◌≢◌, ◌⊎◌, ℕ, ◌+◌}
use Rattle.filetree.specs.Names.{refusal_number}
use Rattle.filetree.specs.declared.refusal.Refusal.{Refusal}
use Rattle.filetree.specs.declared.refusal.Refusal.TheVariants as refusals

-- 2 if memory was refused, else 100 and the number of the refusal
abbrev pub HasDraftStatus : Refusal → ℕ → Type 0
HasDraftStatus r status = ((r ≡ refusals.NoMemory) × (status ≡ 2))
    ⊎ ((r ≢ refusals.NoMemory) × (status ≡ 100 + refusal_number r))
