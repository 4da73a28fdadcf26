-- The first piece of a tree from a block on.
use Rattle.std.proofs.Common.{◌≡◌, ◌≢◌, ◌⊎◌, ℕ, ◌<◌, ◌≤◌, Bool, true, false, List, [], ◌∷◌, Option, Some, None, IsSome, Ordering, Less, Equal, Greater}
use Rattle.std.proofs.Common.{inl, inr}
use Rattle.std.proofs.Common.{refl, sym, ap, ◌∙◌, subst, arith}
use Rattle.std.specs.Option.{option_map, IfSome}
use Rattle.std.specs.Prelude.{slice_get}
use Rattle.std.specs.Ordering.{nat_cmp, ordering_then, is_gt, is_lt}
use Rattle.std.specs.Cmp.{nat_cmp_total, nat_cmp_is, tied_itself}
use Rattle.std.specs.FinMap.{FinMap, get, len, empty, empty_of_len, get-empty, len-empty, same_map}
use Rattle.std.proofs.lemmas.Bool.{cases_lt, false≢true}
use Rattle.std.proofs.lemmas.Map.Keys.{le_from_not_gt}
use Rattle.node_maps.specs.Known.{place_cmp}
use Rattle.node_maps.proofs.Known.{place_total, place_exact}
use Rattle.holdings.specs.Holdings.{KeptPieces, seen_at}

abbrev pub pair : ℕ → ℕ → ℕ × ℕ
pair a b = (a, b)

-- in one tree, pieces are in the order of their blocks
pub in-tree : (n a b : ℕ) → place_cmp (pair n a) (pair n b) ≡ nat_cmp a b
in-tree n a b = ap (λ o. ordering_then o (nat_cmp a b)) (tied_itself nat_cmp_total n)

le-test : (a b : ℕ) → a ≤ b → is_gt (nat_cmp a b) ≡ false
le-test a b low = by (cases_lt a b)
  where
    by : (a < b) ⊎ (b ≤ a) → is_gt (nat_cmp a b) ≡ false
    by (inl less) = ap is_gt (sym (nat_cmp_is a b Less less))
    by (inr more) = let same : a ≡ b = omega (arith, low, more) in ap is_gt (sym (nat_cmp_is a b Equal same))

less-test : (a b : ℕ) → nat_cmp a b ≡ Less → a < b
less-test a b h = by (cases_lt a b)
  where
    by : (a < b) ⊎ (b ≤ a) → a < b
    by (inl less) = less
    by (inr more) = over (cases_lt b a)
      where
        over : (b < a) ⊎ (a ≤ b) → a < b
        over (inl greater) = absurd (false≢true (ap is_gt (sym h) ∙ ap is_gt (sym (nat_cmp_is a b Greater greater))))
        over (inr least) = let same : a ≡ b = omega (arith, more, least) in
            absurd (false≢true (ap is_lt (nat_cmp_is a b Equal same) ∙ ap is_lt h))

-- a map that has nothing anywhere is empty
pub none-len : {X : Type 0} (m : FinMap place_cmp X) → ((q : ℕ × ℕ) → get m q ≡ None) → len m ≡ 0
none-len {X} m none = ap len (same_map place_total place_exact m empty (λ q. none q ∙ sym (get-empty place_cmp q))) ∙ len-empty place_cmp X

-- blocks of one tree
pub late : (n from q : ℕ) → from ≤ q → is_lt (place_cmp (pair n q) (pair n from)) ≡ false
late n from q low = ap is_lt (in-tree n q from) ∙ by (cases_lt q from)
  where
    by : (q < from) ⊎ (from ≤ q) → is_lt (nat_cmp q from) ≡ false
    by (inl less) = absurd (omega (arith, less, low))
    by (inr more) = over (cases_lt from q)
      where
        over : (from < q) ⊎ (q ≤ from) → is_lt (nat_cmp q from) ≡ false
        over (inl greater) = ap is_lt (sym (nat_cmp_is q from Greater greater))
        over (inr least) = let same : q ≡ from = omega (arith, low, least) in ap is_lt (sym (nat_cmp_is q from Equal same))

early : (n q b : ℕ) → q < b → is_lt (place_cmp (pair n q) (pair n b)) ≡ true
early n q b less = ap is_lt (in-tree n q b ∙ sym (nat_cmp_is q b Less less))

-- a key that is not below one of a tree is of that tree or a later one
not-earlier : (k : ℕ × ℕ) (n from : ℕ) → is_lt (place_cmp k (pair n from)) ≡ false → n ≤ k.0
not-earlier k n from h = by (cases_lt k.0 n)
  where
    by : (k.0 < n) ⊎ (n ≤ k.0) → n ≤ k.0
    by (inr more) = more
    by (inl less) = absurd (false≢true (sym h ∙ ap (λ o. is_lt (ordering_then o (nat_cmp k.1 from))) (sym (nat_cmp_is k.0 n Less less))))

module _ (m : KeptPieces) (n from end : ℕ) where
  -- nothing is there
  pub none-there : ((q : ℕ × ℕ) → is_lt (place_cmp q (pair n from)) ≡ false → seen_at m q ≡ None) → (q : ℕ) → from ≤ q → q < end → seen_at m (pair n q) ≡ None
  none-there none q low high = none (pair n q) (late n from q low)

  module _ (k : ℕ × ℕ) (begins : is_lt (place_cmp k (pair n from)) ≡ false)
      (least : (q : ℕ × ℕ) → is_lt (place_cmp q (pair n from)) ≡ false → is_lt (place_cmp q k) ≡ true → seen_at m q ≡ None) where
    -- nothing is there before the first one
    pub none-before : k.0 ≡ n → (q : ℕ) → from ≤ q → q < k.1 → seen_at m (pair n q) ≡ None
    none-before same q low high = least (pair n q) (late n from q low)
        (subst (λ i. is_lt (place_cmp (pair n q) (pair i k.1)) ≡ true) (sym same) (early n q k.1 high))

    -- nothing is there if the first one is of another tree, or past the end
    pub none-past : (k.0 ≢ n) ⊎ (end ≤ k.1) → (q : ℕ) → from ≤ q → q < end → seen_at m (pair n q) ≡ None
    none-past where' q low high = by (cases_lt n k.0) where'
      where
        by : (n < k.0) ⊎ (k.0 ≤ n) → (k.0 ≢ n) ⊎ (end ≤ k.1) → seen_at m (pair n q) ≡ None
        by (inl later) w = least (pair n q) (late n from q low) (ap (λ o. is_lt (ordering_then o (nat_cmp q k.1))) (sym (nat_cmp_is n k.0 Less later)))
        by (inr here) (inl other) = absurd (let low = not-earlier k n from begins in other (omega (arith, here, low)))
        by (inr here) (inr past) = let low' = not-earlier k n from begins in none-before (omega (arith, here, low')) q low (omega (arith, high, past))

    -- the first one is in that tree
    pub first-from : k.0 ≡ n → from ≤ k.1
    first-from same = by (cases_lt k.1 from)
      where
        by : (k.1 < from) ⊎ (from ≤ k.1) → from ≤ k.1
        by (inr more) = more
        by (inl less) = absurd (false≢true (sym (subst (λ i. is_lt (place_cmp (pair i k.1) (pair n from)) ≡ false) same begins) ∙ early n k.1 from less))
