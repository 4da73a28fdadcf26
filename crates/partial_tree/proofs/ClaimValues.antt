-- What a hashes message gives.
use Rattle.std.proofs.Common.{◌≡◌, ◌≢◌, ◌⊎◌, ℕ, zero, suc, ◌+◌, ◌-◌, ◌*◌, ◌/◌, ◌<◌, ◌≤◌, Bool, true, false, cond, eqb, leb, ltb, ◌&&◌, List}
use Rattle.std.proofs.Common.{Option, Some, None, inl, inr, refl, sym, ap, ap₂, ◌∙◌, arith}
use Rattle.std.specs.Prelude.{slice_get}
use Rattle.std.specs.Option.{option_or}
use Rattle.std.proofs.lemmas.Option.{same_Some, none-some}
use Rattle.std.proofs.lemmas.Bool.{and_parts, eqb-true, leb-true, ltb-true}
use Rattle.wire.specs.declared.message.Ask.{Ask}
use Rattle.node_maps.specs.Digest.{Hash, join}
use Rattle.partial_tree.specs.Claims.{cover, above, sibling, base_hash, uncle_hash, given, join_both, claims}

-- ---- optional values

-- a value behind a test
pub guarded : (t : Bool) (o : Option Hash) (v : Hash) → cond t o None ≡ Some v → (t ≡ true) × (o ≡ Some v)
guarded true o v e = (refl, e)
guarded false o v e = absurd (none-some v e)

pub either : (o p : Option Hash) (v : Hash) → option_or o p ≡ Some v → (o ≡ Some v) ⊎ ((o ≡ None) × (p ≡ Some v))
either None p v e = inr (refl, e)
either (Some x) p v e = inl e

pub first_of_two : (o p : Option Hash) (v : Hash) → o ≡ Some v → option_or o p ≡ Some v
first_of_two o p v e = ap (λ x. option_or x p) e

pub second_of_two : (o p : Option Hash) → o ≡ None → option_or o p ≡ p
second_of_two o p e = ap (λ x. option_or x p) e

pub parts_of_join : (o p : Option Hash) (v : Hash) → join_both o p ≡ Some v → (a b : Hash) × (o ≡ Some a) × (p ≡ Some b) × (v ≡ join a b)
parts_of_join None p v e = absurd (none-some v e)
parts_of_join (Some a) None v e = absurd (none-some v e)
parts_of_join (Some a) (Some b) v e = (a, b, refl, refl, sym (same_Some _ _ e))

-- ---- what is given, and what is claimed

module _ (ask : Ask) (hashes : List Hash) where
  pub base-read : (l i : ℕ) (v : Hash) → base_hash ask hashes l i ≡ Some v
      → (l ≡ ask.base) × (ask.index ≤ i) × (i < ask.index + ask.length) × (slice_get hashes (i - ask.index) ≡ Some v)
  base-read l i v e =
      let both = guarded (eqb l ask.base && (leb ask.index i && ltb i (ask.index + ask.length))) (slice_get hashes (i - ask.index)) v e in
      let one = and_parts (eqb l ask.base) (leb ask.index i && ltb i (ask.index + ask.length)) both.0 in
      let two = and_parts (leb ask.index i) (ltb i (ask.index + ask.length)) one.1 in
      (eqb-true _ _ one.0, leb-true _ _ two.0, ltb-true _ _ two.1, both.1)

  pub uncle-read : (l i : ℕ) (v : Hash) → uncle_hash ask hashes l i ≡ Some v
      → (cover ask ≤ l) × (i ≡ sibling (above ask l)) × (slice_get hashes (ask.length + (l - cover ask)) ≡ Some v)
  uncle-read l i v e =
      let both = guarded (leb (cover ask) l && eqb i (sibling (above ask l))) (slice_get hashes (ask.length + (l - cover ask))) v e in
      let one = and_parts (leb (cover ask) l) (eqb i (sibling (above ask l))) both.0 in
      (leb-true _ _ one.0, eqb-true _ _ one.1, both.1)

  -- a claim is given, or is the join of two claimed children
  pub claims-read : (l i : ℕ) (v : Hash) → claims ask hashes (suc l) i ≡ Some v
      → (given ask hashes (suc l) i ≡ Some v)
      ⊎ ((given ask hashes (suc l) i ≡ None) × ((a b : Hash) × (claims ask hashes l (2 * i) ≡ Some a) × (claims ask hashes l (2 * i + 1) ≡ Some b)
      × (v ≡ join a b)))
  unfolding claims
  claims-read l i v e = elim (either (given ask hashes (suc l) i) (join_both (claims ask hashes l (2 * i)) (claims ask hashes l (2 * i + 1))) v e) [
    | inl g ↦ inl g
    | inr g ↦ inr (g.0, parts_of_join (claims ask hashes l (2 * i)) (claims ask hashes l (2 * i + 1)) v g.1)
  ]

  pub claims-zero : (i : ℕ) → claims ask hashes zero i ≡ given ask hashes zero i
  unfolding claims
  claims-zero i = refl

  pub claims-given : (l i : ℕ) (v : Hash) → given ask hashes l i ≡ Some v → claims ask hashes l i ≡ Some v
  unfolding claims
  claims-given zero i v e = e
  claims-given (suc l) i v e = first_of_two (given ask hashes (suc l) i) _ v e

  pub claims-joined : (l i : ℕ) (a b : Hash) → given ask hashes (suc l) i ≡ None → claims ask hashes l (2 * i) ≡ Some a
      → claims ask hashes l (2 * i + 1) ≡ Some b
      → claims ask hashes (suc l) i ≡ Some (join a b)
  unfolding claims
  claims-joined l i a b none p q =
      second_of_two (given ask hashes (suc l) i) _ none ∙ ap₂ join_both p q

-- ---- siblings

pub sibling-apart : (i : ℕ) → i ≢ sibling i
sibling-apart i e = omega arith

pub sibling-half : (i : ℕ) → sibling i / 2 ≡ i / 2
sibling-half i = omega arith

-- the two children of a parent are a node and its sibling, in one order or the other
pub pair_of : (s i : ℕ) → i / 2 ≡ s / 2 → (i ≡ s) ⊎ (i ≡ sibling s)
pair_of s i e = grind arith
