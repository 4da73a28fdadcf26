-- Bytes that run in stages, and the digests that these told.
use Rattle.std.proofs.Common.{◌≡◌, ℕ, ◌+◌, ◌-◌, ◌*◌, ◌/◌, ◌<◌, ◌≤◌, List, ◌++◌, Option, Some, None}
use Rattle.std.proofs.Common.{inl, inr, refl, ap, ◌∙◌, arith}
use Rattle.std.specs.Coded.{Coded-set, coded_ℕ}
use Rattle.std.proofs.Math.Logic.{∥∥₁_elim, ∥∥₁_map}
use Rattle.std.proofs.Math.Nat.{mul-le-mul_left, le-div_iff_mul-le}
use Rattle.std.proofs.lemmas.Bool.{cases_lt}
use Rattle.lanes.specs.declared.words.TheConstants.{LANES}
use Rattle.pieces.specs.NextCuts.{cuts_told}
use Rattle.pieces.specs.Running.{HoldsSomeContent, told}
use Rattle.pieces.specs.Staged.{CountsTold, TakesStretch, bytes_staged}
use Rattle.pieces.specs.declared.stages.Stages.{Stages}

-- how many digests are told
pub told_more : (digest : Option (List ℕ)) (before after : ℕ) → CountsTold digest before after → after ≡ before + cuts_told digest
told_more None before after counts = counts.none refl ∙ omega arith
told_more (Some d) before after counts = counts.one d refl

-- the pieces of some content have the length that its stretches have together
pub size_is : (s : Stages) (p : ℕ) → HoldsSomeContent s p → p ≡ LANES * s.store.size
size_is s p some = ∥∥₁_elim some (Coded-set coded_ℕ _ _) (λ x. x.1.piece_length_is)

-- whole pieces came
pub whole_staged : (s : Stages) (p k : ℕ) → p ≡ LANES * s.store.size → k ≤ s.piece → p * k ≤ bytes_staged s
whole_staged s p k size few =
    let least : p * k ≤ p * s.piece = mul-le-mul_left p few in
    let all : p * s.piece ≡ s.store.size * (LANES * s.piece) = ap (λ n. n * s.piece) size ∙ omega arith in
    let within : s.store.size * (LANES * s.piece) ≤ s.store.size * (LANES * s.piece + s.stretch) = mul-le-mul_left s.store.size (omega arith) in
    omega (arith, least, all, within)

-- so are those that were told
pub told_whole : (s : Stages) (p : ℕ) → p ≡ LANES * s.store.size → p * told s ≤ bytes_staged s
told_whole s p size = whole_staged s p (told s) size (omega arith)

-- and another one behind them
pub one_untold : (s : Stages) (p : ℕ) → p ≡ LANES * s.store.size → 0 < told s → p * told s + p ≤ bytes_staged s
one_untold s p size some = let all : p * (told s + 1) ≡ p * told s + p = omega arith in
    omega (arith, all, whole_staged s p (told s + 1) size (omega (arith, some)))

-- nothing came, so nothing is told
pub told_none : (s : Stages) (p : ℕ) → 0 < p → p ≡ LANES * s.store.size → bytes_staged s ≡ 0 → told s ≡ 0
told_none s p some size none = elim (cases_lt 0 (told s)) [
  | inl more ↦ omega (arith, some, none, one_untold s p size more)
  | inr not_more ↦ omega (arith, not_more)
]

-- more bytes came
pub holds_more : (s t : Stages) (p : ℕ) (bytes : List ℕ) (digest : Option (List ℕ)) → TakesStretch s bytes digest t → HoldsSomeContent s p
    → HoldsSomeContent t p
holds_more s t p bytes digest takes some = ∥∥₁_map some (λ x. (x.0 ++ bytes, takes.content p x.0 x.1))

-- ---- memory

-- where one of the cuts finds no room, one finds none of all that were open before
pub no_room : (p len len' cap cap' run run' given rest : ℕ) → 0 < p → p * len' + run' ≤ p * len + run + given → len ≤ len' → cap ≤ cap'
    → cap' - len' < (run' + rest - 1) / p → cap - len < (run + (given + rest) - 1) / p
no_room p len len' cap cap' run run' given rest some count longer more few =
    let closed : ℕ = len' - len in
    let free : ℕ = cap' - len' in
    let len_is : len' ≡ len + closed = omega (arith, longer) in
    let all : p * len' ≡ p * len + closed * p = ap (λ k. p * k) len_is ∙ omega arith in
    let least : free + 1 ≤ (run' + rest - 1) / p = omega (arith, few) in
    let bytes : (free + 1) * p ≤ run' + rest - 1 = (le-div_iff_mul-le {k = p} {x = free + 1} {y = run' + rest - 1} some).0 least in
    let whole : (closed + free + 1) * p ≤ run + (given + rest) - 1 = omega (arith, all, count, bytes, some) in
    let many : closed + free + 1 ≤ (run + (given + rest) - 1) / p =
    (le-div_iff_mul-le {k = p} {x = closed + free + 1} {y = run + (given + rest) - 1} some).1 whole in
    omega (arith, many, longer, more)
