-- How a body goes with its head.
use Rattle.std.proofs.Common.{◌≡◌, ℕ, ◌+◌, ◌-◌, ◌<◌, ◌≤◌, List, [], ◌∷◌, ◌++◌, length, take, get_or, refl, sym, ap, ◌∙◌, arith, subst, inl, inr}
use Rattle.std.proofs.lemmas.List.{length-append, length-take-le, take_all}
use Rattle.wire.specs.declared.kind.Kind.{Kind}
use Rattle.wire.specs.declared.frame.Head.{Head}
use Rattle.wire.specs.declared.frame.Head.TheVariants.{KeepAlive, Kept, BadSize, Other}
use Rattle.wire.specs.Kind.{id_of}
use Rattle.wire.specs.Meaning.{IsRightSize}
use Rattle.wire.specs.Head.{IsHead, IsBodyWithHead}

pub single : (xs : List ℕ) → length xs ≡ 1 → xs ≡ get_or xs 0 0 ∷ []
single [] e = absurd (omega arith)
single (x ∷ []) e = refl
single (x ∷ y ∷ xs) e = absurd (omega arith)

-- an id was read, and the rest was kept
pub length-kept : (id len : ℕ) (items buf : List ℕ) → buf ≡ id ∷ [] → 0 < len → len - 1 ≤ length items → length (buf ++ take (len - 1) items) ≡ len
length-kept id len items buf e some room =
    rw e (omega (arith, length-take-le (len - 1) items room))

pub Holds-kept : (id len n : ℕ) (kind : Kind) (items buf : List ℕ) → buf ≡ id ∷ [] → IsHead id len (Kept kind n) → 0 < len → len - 1 ≤ length items
    → IsBodyWithHead (Kept kind n) items (buf ++ take (len - 1) items)
Holds-kept id len n kind items buf e h some room = (
  subst (λ k. IsRightSize (id_of kind) k) (sym h.1) (subst (λ i. IsRightSize i len) h.0 h.2),
  h.1 ∙ sym (length-kept id len items buf e some room),
  rw (e, h.1) (ap (λ i. i ∷ take (len - 1) items) h.0),
)

-- an id was read, and the rest was skipped
pub Holds-skipped : (id len : ℕ) (head : Head) (items buf rest : List ℕ) → buf ≡ id ∷ [] → IsHead id len head → ((kind : Kind) (n : ℕ) → head ≡ Kept kind n → ⊥)
    → length rest + 1 ≡ len
    → IsBodyWithHead head items (buf ++ rest)
Holds-skipped id len KeepAlive items buf rest e h not size = absurd h
Holds-skipped id len (Kept kind n) items buf rest e h not size = absurd (not kind n refl)
Holds-skipped id len (BadSize i n) items buf rest e h not size =
    (record { rest = rest; bytes = rw (e, h.0) refl; size = rw e (omega (arith, h.1, size)) }, rw h.0 h.2, rw (h.0, h.1) h.3)
Holds-skipped id len (Other i n) items buf rest e h not size =
    (record { rest = rest; bytes = rw (e, h.0) refl; size = rw e (omega (arith, h.1, size)) }, rw h.0 h.2)

-- a body of the longest length is never kept
too_long : (id : ℕ) → IsRightSize id 4294967295 → ⊥
too_long id (inl p) = omega (arith, p.1.1)
too_long id (inr (inl p)) = omega (arith, p.1)
too_long id (inr (inr (inl p))) = omega (arith, p.1.1)
too_long id (inr (inr (inr p))) = omega (arith, p.1)

pub Holds-longest : (head : Head) (items front rest : List ℕ) → length front ≡ 4 → IsHead (get_or front 0 0) 4294967295 head → length rest ≡ 4294967291
    → IsBodyWithHead head items (front ++ rest)
Holds-longest head items [] rest four is size = absurd (omega (arith, four))
Holds-longest head items (x ∷ front) rest four is size =
    Holds-skipped x 4294967295 head items (x ∷ []) (front ++ rest) refl is (λ kind n e. too_long x (subst (IsHead x 4294967295) e is).2)
    (omega (arith, four, size, length-append front rest))

-- a body that is whole, with what follows its id
pub Holds-whole : (id len : ℕ) (head : Head) (rest body : List ℕ) → body ≡ id ∷ rest → len ≡ length body → IsHead id len head → IsBodyWithHead head rest body
Holds-whole id len KeepAlive rest body e size h = absurd h
Holds-whole id len (Kept kind n) rest body e size h = (
  subst (λ k. IsRightSize (id_of kind) k) (sym h.1) (subst (λ i. IsRightSize i len) h.0 h.2),
  h.1 ∙ size,
  e ∙ ap (λ i. i ∷ rest) h.0 ∙ ap (λ xs. id_of kind ∷ xs) (sym (take_all (n - 1) rest (omega (arith, h.1, size, ap length e)))),
)
Holds-whole id len (BadSize i n) rest body e size h =
    (record { rest = rest; bytes = rw h.0 e; size = h.1 ∙ size }, rw h.0 h.2, rw (h.0, h.1) h.3)
Holds-whole id len (Other i n) rest body e size h =
    (record { rest = rest; bytes = rw h.0 e; size = h.1 ∙ size }, rw h.0 h.2)
