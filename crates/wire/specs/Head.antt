-- What a reader remembers of a frame, and how a body goes with it.
use Rattle.std.specs.Prelude.{◌≡◌, ℕ, ◌-◌, List, [], ◌∷◌, length, take}
use Rattle.wire.specs.Kind.{id_of}
use Rattle.wire.specs.Meaning.{IsOf, IsKnownId, IsRightSize}
use Rattle.wire.specs.declared.frame.Head.{Head}
use Rattle.wire.specs.declared.frame.Head.TheVariants.{KeepAlive, Kept, BadSize, Other}

-- the head of a body that has this id and this length
abbrev pub IsHead : ℕ → ℕ → Head → Type 0
IsHead id len KeepAlive = ⊥
IsHead id len (Kept kind n) = (id ≡ id_of kind) × (n ≡ len) × IsRightSize id len
IsHead id len (BadSize i n) = (i ≡ id) × (n ≡ len) × IsKnownId id × ¬ IsRightSize id len
IsHead id len (Other i n) = (i ≡ id) × (n ≡ len) × ¬ IsKnownId id

-- the body has this head, and what follows its id is kept, if its message is of a known kind
abbrev pub IsBodyWithHead : Head → List ℕ → List ℕ → Type 0
IsBodyWithHead KeepAlive kept body = body ≡ []
IsBodyWithHead (Kept kind n) kept body =
    IsRightSize (id_of kind) n × (n ≡ length body) × (body ≡ id_of kind ∷ take (n - 1) kept)
IsBodyWithHead (BadSize id n) kept body = IsOf body id n × IsKnownId id × ¬ IsRightSize id n
IsBodyWithHead (Other id n) kept body = IsOf body id n × ¬ IsKnownId id
