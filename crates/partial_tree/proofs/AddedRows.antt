-- A row of a tree that grows, place by place.
use Rattle.std.proofs.Common.{◌≡◌, ◌≢◌, ◌⊎◌, ℕ, ◌+◌, ◌-◌, ◌*◌, ◌<◌, ◌≤◌, List, [], Option, Some, None}
use Rattle.std.proofs.Common.{inl, inr, refl, sym, ap, ap₂, ◌∙◌, subst, arith, slice_index_or}
use Rattle.std.specs.FinMap.{insert, len}
use Rattle.std.specs.Option.{IsSome}
use Rattle.std.proofs.lemmas.Bool.{cases_eq, cases_lt}
use Rattle.std.proofs.lemmas.Option.{same_Some}
use Rattle.node_maps.specs.Digest.{Hash, join}
use Rattle.node_maps.specs.Known.{Known, look}
use Rattle.node_maps.specs.Runs.{AreKnown}
use Rattle.node_maps.proofs.Known.{look-insert_same, look-insert_other}
use Rattle.partial_tree.specs.declared.message.found.Claim.{Claim}
use Rattle.partial_tree.specs.Claims.{join_both}
use Rattle.partial_tree.specs.Grown.{AddsRow, HasRow, parents_of}
use Rattle.partial_tree.proofs.Noting.{len-new}

-- a place that was not known is one place more
pub len-absent : (m : Known) (l i : ℕ) (h : Hash) → look m l i ≡ None → len (insert m (l, i) h) ≡ len m + 1
len-absent m l i h none =
    let c : Claim = record { layer = l; index = i; hash = h } in
    len-new m c None (sym none) refl

module _ (old : Known) (layer from : ℕ) (f : ℕ → Option Hash) where
  pub adds-one : (mid new : Known) (n : ℕ) (h : Hash) → from ≤ n → AddsRow old layer from n f mid → f n ≡ Some h → new ≡ insert mid (layer, n) h
      → len new ≡ len mid + 1
      → AddsRow old layer from (n + 1) f new
  adds-one mid new n h low adds is put more = record {
    row = λ i after before. ap (λ m. look m layer i) put ∙ here i after before (cases_eq i n);
    rest = λ l i other. ap (λ m. look m l i) put ∙ look-insert_other mid layer n h l i (apart l i other) ∙ adds.rest l i (wider l i other);
    gained = omega (arith, more, adds.gained);
  }
    where
      here : (i : ℕ) → from ≤ i → i < n + 1 → (i ≡ n) ⊎ (i ≢ n) → look (insert mid (layer, n) h) layer i ≡ f i
      here i after before (inl same) = ap (look (insert mid (layer, n) h) layer) same ∙ look-insert_same mid layer n h ∙ sym is ∙ ap f (sym same)
      here i after before (inr other) = look-insert_other mid layer n h layer i (inr other) ∙ adds.row i after (omega arith)

      apart : (l i : ℕ) → (l ≢ layer) ⊎ ((i < from) ⊎ (n + 1 ≤ i)) → (l ≢ layer) ⊎ (i ≢ n)
      apart l i (inl other) = inl other
      apart l i (inr (inl before)) = inr (λ e. omega arith)
      apart l i (inr (inr past)) = inr (λ e. omega arith)

      wider : (l i : ℕ) → (l ≢ layer) ⊎ ((i < from) ⊎ (n + 1 ≤ i)) → (l ≢ layer) ⊎ ((i < from) ⊎ (n ≤ i))
      wider l i (inl other) = inl other
      wider l i (inr (inl before)) = inr (inl before)
      wider l i (inr (inr past)) = inr (inr (omega arith))

-- ---- the parents of a layer

-- a known node of the layer below the one that grows
pub child-known : (old mid : Known) (layer n count i : ℕ) (f : ℕ → Option Hash) → AreKnown (look old layer) 0 count → AddsRow old (layer + 1) 0 n f mid
    → i < count
    → (v : Hash) × (look mid layer i ≡ Some v) × (look old layer i ≡ Some v)
child-known old mid layer n count i f known adds low =
    let there = known i low in
    let here : i ≡ 0 + i = omega arith in
    let before : look old layer i ≡ Some there.0 = ap (look old layer) here ∙ there.1 in
    (there.0, adds.rest layer i (inl (λ e. omega arith)) ∙ before, before)

pub is-some : (o : Option Hash) (v : Hash) → o ≡ Some v → IsSome o
is-some o v e = subst IsSome (sym e) refl

-- what is taken out of a known look-up
pub taken-out : (o : Option Hash) (v x : Hash) → o ≡ Some x → o ≡ Some v → x ≡ v
taken-out o v x is e = same_Some x v (sym is ∙ e)

-- the parent of two children
pub parent-of_two : (old : Known) (layer i : ℕ) (left right : Hash) → look old layer (2 * i) ≡ Some left → look old layer (2 * i + 1) ≡ Some right
    → parents_of old layer i ≡ Some (join left right)
parent-of_two old layer i left right p q = ap₂ join_both p q

-- the children of a row are known while the layer above grows
pub children-known_row : (old mid : Known) (layer n from count : ℕ) (f : ℕ → Option Hash) → AreKnown (look old layer) 0 count
    → AddsRow old (layer + 1) 0 n f mid
    → from + 16 ≤ count
    → AreKnown (look mid layer) from 16
children-known_row old mid layer n from count f known adds inside = λ j low.
    let child = child-known old mid layer n count (from + j) f known adds (omega arith) in
    (child.0, child.1)

-- the parents of two rows of eight, of which the second follows the first
pub parents-of_rows : (K : Known) (layer from : ℕ) (left right above : List Hash)
    → HasRow (look K layer) (2 * from) left
    → HasRow (look K layer) (2 * from + 8) right
    → ((j : ℕ) → j < 4 → slice_index_or above j [] ≡ join (slice_index_or left (2 * j) []) (slice_index_or left (2 * j + 1) []))
    → ((j : ℕ) → j < 4 → slice_index_or above (4 + j) [] ≡ join (slice_index_or right (2 * j) []) (slice_index_or right (2 * j + 1) []))
    → HasRow (parents_of K layer) from above
parents-of_rows K layer from left right above first second one two = λ j low. half j low (cases_lt j 4)
  where
    half : (j : ℕ) → j < 8 → (j < 4) ⊎ (4 ≤ j) → parents_of K layer (from + j) ≡ Some (slice_index_or above j [])
    half j low (inl less) =
        let even : 2 * (from + j) ≡ 2 * from + 2 * j = omega arith in
        let odd : 2 * (from + j) + 1 ≡ 2 * from + (2 * j + 1) = omega arith in
        parent-of_two K layer (from + j) _ _ (ap (look K layer) even ∙ first (2 * j) (omega arith)) (ap (look K layer) odd ∙ first (2 * j + 1) (omega arith))
        ∙ ap Some (sym (one j less))
    half j low (inr more) =
        let even : 2 * (from + j) ≡ 2 * from + 8 + 2 * (j - 4) = omega arith in
        let odd : 2 * (from + j) + 1 ≡ 2 * from + 8 + (2 * (j - 4) + 1) = omega arith in
        let at : 4 + (j - 4) ≡ j = omega arith in
        parent-of_two K layer (from + j) _ _ (ap (look K layer) even ∙ second (2 * (j - 4)) (omega arith))
        (ap (look K layer) odd ∙ second (2 * (j - 4) + 1) (omega arith))
        ∙ ap Some (sym (two (j - 4) (omega arith)) ∙ ap (λ k. slice_index_or above k []) at)
