-- What came of a piece that is not whole, given to a cutter.
use Rattle.std.proofs.Common.{◌≡◌, ℕ, suc, ◌+◌, ◌-◌, ◌*◌, ◌<◌, ◌≤◌, min, List, ◌++◌, length, take, drop, sym, ap, ◌∙◌, subst, arith}
use Rattle.std.proofs.Math.Nat.{mul-le-mul_left}
use Rattle.std.proofs.lemmas.List.{drop-drop, length-take, take_all, take-append-drop}
use Rattle.lanes.specs.declared.words.TheConstants.{LANES}
use Rattle.pieces.specs.Cuts.{cut}
use Rattle.pieces.specs.Cutting.{IsCutting}
use Rattle.pieces.specs.Slot.{slot_of}
use Rattle.pieces.specs.Staged.{IsDraining}
use Rattle.pieces.specs.Stored.{slot_bytes}
use Rattle.pieces.specs.declared.cutter.Cutter.{Cutter}
use Rattle.pieces.specs.declared.stages.Stages.{Stages}
use Rattle.pieces.proofs.Staged.{begun_next}
use Rattle.pieces.proofs.StagedWhole.{slot_long}

-- a cutter took these bytes, as many as it has room for
pub record HasTaken (old new : Cutter) (taken : ℕ) (bytes : List ℕ) : Type 0 where
  pub taken_is : taken ≡ min (old.piece_length - old.filled) (length bytes)
  pub running : (held : List ℕ) → IsCutting old held → IsCutting new (held ++ take taken bytes)

-- it took all of them, since it has room
all_taken : (old new : Cutter) (taken : ℕ) (held bytes : List ℕ) → HasTaken old new taken bytes → old.filled + length bytes ≤ old.piece_length
    → IsCutting old held → IsCutting new (held ++ bytes)
all_taken old new taken held bytes took room cutting =
    subst (λ t. IsCutting new (held ++ t)) (take_all taken bytes (omega (arith, took.taken_is, room))) (took.running held cutting)

-- some stretches of the piece
abbrev begun : ℕ → ℕ → ℕ → List ℕ → List ℕ
begun size piece i content = take (size * i) (drop (size * (LANES * piece)) content)

-- they have room in a cutter, and more
filled_is : (cutter : Cutter) (size piece i : ℕ) (content : List ℕ) → IsCutting cutter (begun size piece i content) → cutter.filled ≤ size * i
filled_is cutter size piece i content cutting =
    omega (arith, cutting.length_is, length-take (size * i) (drop (size * (LANES * piece)) content))

-- one more stretch
pub stretch_given : (s : Stages) (step piece_length i taken : ℕ) (content bytes : List ℕ) (old new : Cutter)
    → IsDraining s step piece_length content → i < s.stretch → bytes ≡ take s.store.size (slot_bytes s.store (slot_of s.piece i))
    → old.piece_length ≡ piece_length → HasTaken old new taken bytes
    → IsCutting old (begun s.store.size s.piece i content) → IsCutting new (begun s.store.size s.piece (i + 1) content)
stretch_given s step piece_length i taken content bytes old new draining less is same took cutting =
    let size : ℕ = s.store.size in
    let short : length bytes ≤ size = omega (arith, ap length is, length-take size (slot_bytes s.store (slot_of s.piece i))) in
    let room : size * (i + 1) ≤ size * LANES = mul-le-mul_left size (omega (arith, less, s.in_piece)) in
    let stretch : bytes ≡ cut size content (LANES * s.piece + i) = is ∙ slot_long s.store (slot_of s.piece i) ∙ draining.stands.before i less in
    let next : suc i ≡ i + 1 = omega arith in
    subst (IsCutting new)
    (ap (λ t. begun size s.piece i content ++ t) stretch ∙ begun_next size s.piece i content ∙ ap (λ n. begun size s.piece n content) next)
    (all_taken old new taken (begun size s.piece i content) bytes took
    (omega (arith, short, room, same, draining.piece_length_is, filled_is old size s.piece i content cutting)) cutting)

-- and what came of the last one
pub rest_given : (s : Stages) (step piece_length taken : ℕ) (content bytes : List ℕ) (old new : Cutter)
    → IsDraining s step piece_length content → bytes ≡ take s.filled (slot_bytes s.store (slot_of s.piece s.stretch))
    → old.piece_length ≡ piece_length → HasTaken old new taken bytes
    → IsCutting old (begun s.store.size s.piece s.stretch content) → IsCutting new (drop (piece_length * s.piece) content)
rest_given s step piece_length taken content bytes old new draining is same took cutting =
    let size : ℕ = s.store.size in
    let from : ℕ = size * (LANES * s.piece) in
    let short : length bytes ≤ s.filled = omega (arith, ap length is, length-take s.filled (slot_bytes s.store (slot_of s.piece s.stretch))) in
    let room : size * (s.stretch + 1) ≤ size * LANES = mul-le-mul_left size (omega (arith, s.in_piece)) in
    let at : size * (LANES * s.piece + s.stretch) ≡ from + size * s.stretch = omega arith in
    let rest : bytes ≡ drop (size * s.stretch) (drop from content) =
    is ∙ draining.stands.running ∙ ap (λ n. drop n content) at ∙ sym (drop-drop (size * s.stretch) from content) in
    let start : from ≡ piece_length * s.piece = sym (ap (λ n. n * s.piece) draining.piece_length_is ∙ omega arith) in
    subst (IsCutting new)
    (ap (λ t. begun size s.piece s.stretch content ++ t) rest ∙ take-append-drop (size * s.stretch) (drop from content) ∙ ap (λ n. drop n content) start)
    (all_taken old new taken (begun size s.piece s.stretch content) bytes took
    (omega (arith, short, room, same, draining.piece_length_is, s.in_stretch, filled_is old size s.piece s.stretch content cutting)) cutting)
