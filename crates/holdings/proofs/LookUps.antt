-- What is found at a place after a change of the two maps, and how many entries there are then.
use Rattle.std.proofs.Common.{◌≡◌, ◌⊎◌, ℕ, zero, suc, ◌+◌, ◌-◌, ◌<◌, cond, is_some, []}
use Rattle.std.proofs.Common.{Some, None, inl}
use Rattle.std.proofs.Common.{inr, refl, sym, ap, ◌∙◌, arith}
use Rattle.std.specs.Ordering.{nat_cmp, eq_by_cmp, is_eq}
use Rattle.std.specs.Cmp.{eq_by_cmp_equiv, nat_cmp_total}
use Rattle.std.specs.FinMap.{get, insert, remove, len, get-insert, get-remove, len-insert, len-remove, get-empty, empty_of_len}
use Rattle.std.proofs.lemmas.Option.{none-some}
use Rattle.node_maps.specs.Known.{place_cmp}
use Rattle.node_maps.proofs.Known.{place_total}
use Rattle.fixed_maps.specs.FixedMaps.{map_of}
use Rattle.holdings.specs.Holdings.{PieceSeen, KeptPieces, KeptAges}
use Rattle.holdings.specs.Holdings.{age_at, seen_at}
use Rattle.holdings.specs.Holdings.{with_table_piece}
use Rattle.holdings.proofs.Added.{put-cases}
use Rattle.holdings.proofs.Rows.{left-there, one-less}
use Rattle.holdings.proofs.Ranges.{in-tree}

turned : (q r : ℕ × ℕ) → eq_by_cmp place_cmp r q ≡ eq_by_cmp place_cmp q r
turned q r = (eq_by_cmp_equiv place_total).symm r q

-- ---- look-ups after a change

pub put-seen : (m m' : KeptPieces) (q : ℕ × ℕ) (y : PieceSeen) → m' ≡ with_table_piece m q y
    → (r : ℕ × ℕ) → seen_at m' r ≡ cond (eq_by_cmp place_cmp q r) (Some y) (seen_at m r)
put-seen m m' q y is r = ap (λ (t : KeptPieces). seen_at t r) is ∙ get-insert place_total m.pieces q y r ∙ ap (λ b. cond b (Some y) (seen_at m r)) (turned q r)

pub gone-seen : (m m' : KeptPieces) (q : ℕ × ℕ) → m' ≡ record m { pieces = remove m.pieces q }
    → (r : ℕ × ℕ) → seen_at m' r ≡ cond (eq_by_cmp place_cmp q r) None (seen_at m r)
gone-seen m m' q is r = ap (λ (t : KeptPieces). seen_at t r) is ∙ get-remove place_total m.pieces q r ∙ ap (λ b. cond b None (seen_at m r)) (turned q r)

key-test : (u t : ℕ) → eq_by_cmp place_cmp (0, t) (0, u) ≡ eq_by_cmp nat_cmp u t
key-test u t = ap is_eq (in-tree 0 t u) ∙ (eq_by_cmp_equiv nat_cmp_total).symm t u

module _ (a a' : KeptAges) (u : ℕ) where
  pub age-put : (q : ℕ × ℕ) → map_of a' ≡ insert (map_of a) (0, u) q → (t : ℕ) → age_at a' t ≡ cond (eq_by_cmp nat_cmp u t) (Some q) (age_at a t)
  age-put q is t = ap (λ k. get k (0, t)) is ∙ get-insert place_total (map_of a) (0, u) q (0, t) ∙ ap (λ b. cond b (Some q) (age_at a t)) (key-test u t)

  pub age-gone : map_of a' ≡ remove (map_of a) (0, u) → (t : ℕ) → age_at a' t ≡ cond (eq_by_cmp nat_cmp u t) None (age_at a t)
  age-gone is t = ap (λ k. get k (0, t)) is ∙ get-remove place_total (map_of a) (0, u) (0, t) ∙ ap (λ b. cond b None (age_at a t)) (key-test u t)

  abbrev Zero : KeptAges → Type 0
  Zero b = (k q : ℕ × ℕ) → get (map_of b) k ≡ Some q → k.0 ≡ 0

  pub zero-put : (q : ℕ × ℕ) → map_of a' ≡ insert (map_of a) (0, u) q → Zero a → Zero a'
  zero-put q is old k p at = by (put-cases (map_of a) (0, u) q k p (ap (λ x. get x k) (sym is) ∙ at))
    where
      by : (((0, u) ≡ k) × (q ≡ p)) ⊎ (get (map_of a) k ≡ Some p) → k.0 ≡ 0
      by (inl (here, same)) = ap (λ (x : ℕ × ℕ). x.0) (sym here)
      by (inr was) = old k p was

  pub zero-gone : map_of a' ≡ remove (map_of a) (0, u) → Zero a → Zero a'
  zero-gone is old k p at = old k p (left-there [] [] 0 (map_of a) (0, u) k p (ap (λ x. get x k) (sym is) ∙ at)).1

  pub more-ages : (q : ℕ × ℕ) → map_of a' ≡ insert (map_of a) (0, u) q → age_at a u ≡ None → len (map_of a') ≡ len (map_of a) + 1
  more-ages q is none = ap len is ∙ len-insert place_total (map_of a) (0, u) q ∙ ap (λ o. cond (is_some o) (len (map_of a)) (len (map_of a) + 1)) none

  pub fewer-ages : (q : ℕ × ℕ) → map_of a' ≡ remove (map_of a) (0, u) → age_at a u ≡ Some q → len (map_of a') + 1 ≡ len (map_of a)
  fewer-ages q is at = one-less (map_of a) (map_of a') (0, u) q at is

some-pieces : (m : KeptPieces) (q : ℕ × ℕ) (x : PieceSeen) → seen_at m q ≡ Some x → 0 < len m.pieces
some-pieces m q x at = by (len m.pieces) refl
  where
    by : (n : ℕ) → len m.pieces ≡ n → 0 < len m.pieces
    by zero none = absurd (none-some x (sym (ap (λ k. get k q) (empty_of_len m.pieces none) ∙ get-empty place_cmp q) ∙ at))
    by (suc n) is = omega (arith, is)

module _ (m m' : KeptPieces) (q : ℕ × ℕ) where
  pub more-pieces : (y : PieceSeen) → m' ≡ with_table_piece m q y → seen_at m q ≡ None → len m'.pieces ≡ len m.pieces + 1
  more-pieces y is none = ap (λ (t : KeptPieces). len t.pieces) is ∙ len-insert place_total m.pieces q y
      ∙ ap (λ o. cond (is_some o) (len m.pieces) (len m.pieces + 1)) none

  pub same-pieces : (x y : PieceSeen) → m' ≡ with_table_piece m q y → seen_at m q ≡ Some x → len m'.pieces ≡ len m.pieces
  same-pieces x y is at = ap (λ (t : KeptPieces). len t.pieces) is ∙ len-insert place_total m.pieces q y
      ∙ ap (λ o. cond (is_some o) (len m.pieces) (len m.pieces + 1)) at

  pub fewer-pieces : (x : PieceSeen) → m' ≡ record m { pieces = remove m.pieces q } → seen_at m q ≡ Some x → len m'.pieces + 1 ≡ len m.pieces
  fewer-pieces x is at =
      let fewer : len m'.pieces ≡ len m.pieces - 1 = ap (λ (t : KeptPieces). len t.pieces) is ∙ len-remove place_total m.pieces q
      ∙ ap (λ o. cond (is_some o) (len m.pieces - 1) (len m.pieces)) at in
      let some : 0 < len m.pieces = some-pieces m q x at in
      omega (arith, fewer, some)
