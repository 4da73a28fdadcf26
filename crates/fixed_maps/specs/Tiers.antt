-- Entries in tiers, one after the other.
use Rattle.std.specs.Prelude.{◌≡◌, ◌⊎◌, ℕ, suc, ◌+◌, ◌<◌, ◌≤◌, ◌++◌, T, List, [], ◌∷◌, length, take, drop, slice_index_or, false}
use Rattle.std.specs.List.{flat_map, AllByRecursion}
use Rattle.std.specs.FinMap.Entries.{is_sorted}
use Rattle.std.specs.Ordering.{is_lt}
use Rattle.std.specs.declared.cmp.Ordering.TheVariants.{Less}
use Rattle.node_maps.specs.Known.{place_cmp}

-- a key with its value
abbrev pub Entry : Type 0
Entry = (ℕ × ℕ) × (ℕ × ℕ)

-- the entries of one tier, how many there may be, and for how many there is memory
pub record TierSeen : Type 0 where
  pub items : List Entry
  pub width : ℕ
  pub capacity : ℕ

-- the entries of all tiers, one after the other
abbrev pub flat : List TierSeen → List Entry
flat = flat_map (λ t. t.items)

-- how many entries there may be
abbrev pub room_of : List TierSeen → ℕ
room_of [] = 0
room_of (t ∷ ts) = t.width + room_of ts

-- for how many there is memory
abbrev pub capacity_of : List TierSeen → ℕ
capacity_of [] = 0
capacity_of (t ∷ ts) = t.capacity + capacity_of ts

-- each key is below k
abbrev pub AreBelow : ℕ × ℕ → List Entry → Type 0
AreBelow k = AllByRecursion (λ e. place_cmp e.0 k ≡ Less)

-- no key is below k
abbrev pub AreFrom : ℕ × ℕ → List Entry → Type 0
AreFrom k = AllByRecursion (λ e. is_lt (place_cmp e.0 k) ≡ false)

-- the keys strictly rise
abbrev pub AreRising : List Entry → Type 0
AreRising es = T (is_sorted place_cmp es)

-- the entries of tier i
abbrev pub items_at : List TierSeen → ℕ → List Entry
items_at ts i = (slice_index_or ts i (record { items = []; width = 0; capacity = 0 })).items

-- the entries before a place: those of the tiers before tier a, and b of its own
abbrev pub before_spot : List TierSeen → ℕ → ℕ → List Entry
before_spot ts a b = flat (take a ts) ++ take b (items_at ts a)

-- the entries from that place on
abbrev pub after_spot : List TierSeen → ℕ → ℕ → List Entry
after_spot ts a b = drop b (items_at ts a) ++ flat (drop (suc a) ts)

-- the entries after the one at that place
abbrev pub after_spot_but_one : List TierSeen → ℕ → ℕ → List Entry
after_spot_but_one ts a b = drop (suc b) (items_at ts a) ++ flat (drop (suc a) ts)

-- the place of a key: the keys before it are below k, and those from it on are not
pub record IsPlaceOfKey (k : ℕ × ℕ) (before after : List Entry) : Type 0 where
  pub below : AreBelow k before
  pub from : AreFrom k after

-- the place of a key in tiers: in tier a, after b of its entries, which are not all, unless it is
-- the last tier
pub record IsSpotOf (k : ℕ × ℕ) (ts : List TierSeen) (a b : ℕ) : Type 0 where
  pub tier : a < length ts
  pub place : b ≤ length (items_at ts a)
  pub here : (b < length (items_at ts a)) ⊎ (suc a ≡ length ts)
  pub is_place : IsPlaceOfKey k (before_spot ts a b) (after_spot ts a b)
