use Rattle.std.proofs.Common.{◌≡◌, ◌<◌, ◌≤◌, List, [], ◌∷◌, ℕ, Bor, length, map, get_or, refl, arith}
use Rattle.std.specs.Str.{bytes_eq}
use Rattle.opening.specs.Stream.{is_named}
use Rattle.opening.proofs.version1.is_named.Goals as goal

one_part : (name : List ℕ) (parts : List (Bor (List ℕ))) (d : Bor (List ℕ)) → 1 ≤ length parts → length parts < 2
    → bytes_eq (get_or parts 0 d).now name ≡ is_named name (map (λ s. s.now) parts)
one_part name [] d some few = absurd (omega arith)
one_part name (s ∷ []) d some few = refl
one_part name (s ∷ (t ∷ ts)) d some few = absurd (omega arith)

pub returns-in-len1 : goal.returns-in-len1
returns-in-len1 c =
    rw (c.eq.ensures, c.as_bytes.ensures.value, c.as_bytes-in-len1.ensures.value)
    (one_part c.args.name.now c.args.path.now _ c.in-len1.len_at_least c.in-len1.len_below)
