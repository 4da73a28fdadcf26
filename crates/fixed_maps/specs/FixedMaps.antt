-- What contracts see of a map, and how it is kept.
use Rattle.std.specs.Prelude.{◌≡◌, ℕ, ◌+◌, ◌/◌, ◌<◌, ◌^◌, List, length, refl}
use Rattle.std.specs.Coded.{Coded, code_by, coded×, coded_list, coded_ℕ}
use Rattle.std.specs.FinMap.{FinMap, from_sorted}
use Rattle.node_maps.specs.Known.{place_cmp}
use Rattle.fixed_maps.specs.Tiers.{Entry, TierSeen, AreRising, flat, room_of, capacity_of}

-- the tiers in which the entries stand, one after the other
pub record FixedMapSeen : Type 0 where
  pub tiers : List TierSeen

-- the entries as a finite map
abbrev pub map_of : FixedMapSeen → FinMap place_cmp (ℕ × ℕ)
map_of m = from_sorted (flat m.tiers)

-- a map that was asked to have room for a number of entries has room for no more than these: one
-- tier more than they need, and a tier has 4,096 entries, or a 4,096th of them
abbrev pub most_room : ℕ → ℕ
most_room room = room + (room / 4096 + 4096)

-- how many entries there may be
abbrev pub map_room : FixedMapSeen → ℕ
map_room m = room_of m.tiers

-- for how many entries there is memory
abbrev pub map_capacity : FixedMapSeen → ℕ
map_capacity m = capacity_of m.tiers

abbrev tier_code : Coded TierSeen
tier_code = code_by (List Entry × (ℕ × ℕ))
    (coded× (coded_list (coded× (coded× coded_ℕ coded_ℕ) (coded× coded_ℕ coded_ℕ)))
    (coded× coded_ℕ coded_ℕ))
    (λ t. (t.items, (t.width, t.capacity)))
    (λ p. record { items = p.0; width = p.1.0; capacity = p.1.1 }) (λ _. refl)

abbrev pub fixed_map_code : Coded FixedMapSeen
fixed_map_code = code_by (List TierSeen) (coded_list tier_code) (λ m. m.tiers)
    (λ ts. record { tiers = ts }) (λ _. refl)

-- there is a tier, and memory for just these tiers; the keys rise through all of them, this is how
-- many entries there are, and there is no room for more than a number of 64 bits says
pub record IsFixedMap (ts : List TierSeen) (count most_tiers : ℕ) : Type 0 where
  pub some : 0 < length ts
  pub rising : AreRising (flat ts)
  pub count_is : count ≡ length (flat ts)
  pub low : room_of ts < 2 ^ 64
  pub exact : most_tiers ≡ length ts
