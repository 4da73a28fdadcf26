-- The piece that gives way.
use Rattle.std.proofs.Common.{◌≡◌, ◌⊎◌, inl, inr, ℕ, ◌+◌, ◌<◌, ◌≤◌, ◌^◌, length, true, false, Option, Some, None, IfSome, IfNone, IsSome, refl, sym, ap}
use Rattle.std.proofs.Common.{◌∙◌, subst, arith}
use Rattle.std.specs.Ordering.{is_lt, nat_cmp}
use Rattle.std.specs.Cmp.{nat_cmp_is}
use Rattle.std.specs.declared.cmp.Ordering.TheVariants.{Less}
use Rattle.std.specs.FinMap.{get, len, empty_of_len, len-empty}
use Rattle.std.proofs.lemmas.Bool.{cases_lt}
use Rattle.std.proofs.lemmas.Option.{none-some, same_Some}
use Rattle.node_maps.specs.Known.{place_cmp}
use Rattle.fixed_maps.specs.FixedMaps.{map_of}
use Rattle.holdings.specs.Holdings.{PieceSeen, KeptPieces, KeptAges, IsKept, age_at, seen_at}
use Rattle.holdings.proofs.Ranges.{in-tree, none-len}

module _ (m : KeptPieces) (a : KeptAges) (most clock : ℕ) (kept : IsKept m a most clock) where
  -- where as many pieces are held as may be, there is an age
  pub has-age : most ≤ len m.pieces → ((k : ℕ × ℕ) → get (map_of a) k ≡ None) → ⊥
  has-age full none =
      let some = kept.some in
      let many = kept.as_many in
      let no : len (map_of a) ≡ 0 = none-len (map_of a) none in
      omega (arith, some, many, full, no)

  -- the piece of an age
  pub of-age : (k q : ℕ × ℕ) → get (map_of a) k ≡ Some q
      → (x : PieceSeen) × (seen_at m q ≡ Some x) × (x.newest ≡ k.1) × (q.1 + length x.cells < 2 ^ 64)
  of-age k q at =
      let here : age_at a k.1 ≡ Some q = subst (λ i. get (map_of a) (i, k.1) ≡ Some q) (kept.zero k q at) at in
      let (x, there, newest) = kept.aged.of k.1 q here in
      (x, there, newest, (kept.aged.low q x there).0)

  -- the first age is that of the oldest
  pub oldest-of : (k q : ℕ × ℕ) → get (map_of a) k ≡ Some q → ((r : ℕ × ℕ) → is_lt (place_cmp r k) ≡ true → get (map_of a) r ≡ None)
      → (r : ℕ × ℕ) (y : PieceSeen) → seen_at m r ≡ Some y → k.1 ≤ y.newest
  oldest-of k q at least r y there = by (cases_lt y.newest k.1)
    where
      by : (y.newest < k.1) ⊎ (k.1 ≤ y.newest) → k.1 ≤ y.newest
      by (inr more) = more
      by (inl less) =
          let early : is_lt (place_cmp (0, y.newest) k) ≡ true =
          subst (λ i. is_lt (place_cmp (0, y.newest) (i, k.1)) ≡ true) (sym (kept.zero k q at))
          (ap is_lt (in-tree 0 y.newest k.1 ∙ sym (nat_cmp_is y.newest k.1 Less less))) in
          absurd (none-some r (sym (least (0, y.newest) early) ∙ kept.aged.at r y there))
