-- What a decoder's store holds. The parser's own contracts cite these, no public clause does.
use Rattle.std.specs.Prelude.{◌≡◌, ℕ, List, None, Some, ◌⊎◌}
use Rattle.std.specs.Option.{option_copied}
use Rattle.benc.specs.declared.store.Store.{Store}

-- no growth was refused, and so all that was decoded is there
abbrev pub KeepsAll : Store → Type 0
KeepsAll store = option_copied store.refused ≡ None

-- no growth was refused, or the first that was is of a list or dictionary of which the fact holds
abbrev pub Refused : Store → Store → (List ℕ → Type 0) → Type 0
Refused old new Fact =
    (option_copied new.refused ≡ option_copied old.refused)
    ⊎ (KeepsAll old × ((start : List ℕ) × (option_copied new.refused ≡ Some start) × Fact start))
