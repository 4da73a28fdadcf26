-- A partial tree as a value: a finite map from places to hashes. The laws are about `look`, the
-- function that it is.
use Rattle.std.specs.Prelude.{ℕ, zero, suc, ◌-◌, ◌^◌, nat_le, nat_lt, if◌then◌else◌, ◌&&◌, Option, Some, None}
use Rattle.std.specs.Coded.{Coded, coded×, coded_list, coded_ℕ}
use Rattle.std.specs.Ordering.{nat_cmp, ordering_then}
use Rattle.std.specs.declared.cmp.Ordering.{Ordering}
use Rattle.std.specs.FinMap.{FinMap, get, insert, empty}
use Rattle.std.specs.FinMap as map
use Rattle.std.specs.FinSet as set
use Rattle.node_maps.specs.Digest.{Hash}
use Rattle.node_maps.specs.Places.{PartialTree}

-- by layer, and then by index
abbrev pub place_cmp : ℕ × ℕ → ℕ × ℕ → Ordering
place_cmp a b = ordering_then (nat_cmp a.0 b.0) (nat_cmp a.1 b.1)

-- the known places with their hashes
abbrev pub Known : Type 0
Known = FinMap place_cmp Hash

-- the numbers of the marked leaves
abbrev pub Marked : Type 0
Marked = set.FinSet nat_cmp

-- the known places, written as one value
abbrev pub known_code : Coded Known
known_code = map.code (coded× coded_ℕ coded_ℕ) (coded_list coded_ℕ)

-- the marked leaves, written as one value
abbrev pub marked_code : Coded Marked
marked_code = set.code coded_ℕ

-- what is known at a place
abbrev pub look : Known → PartialTree
look m l i = get m (l, i)

-- with a value at a place, if there is one
abbrev pub insert_some : Known → ℕ × ℕ → Option Hash → Known
insert_some m place None = m
insert_some m place (Some h) = insert m place h

-- with what f has at the first n places of layer l
abbrev pub with_row : PartialTree → ℕ → ℕ → Known → Known
with_row f l zero m = m
with_row f l (suc n) m = insert_some (with_row f l n m) (l, n) (f l n)

-- what f has on the layers below `top` of a tree of height h
abbrev pub with_layers : PartialTree → ℕ → ℕ → Known
with_layers f h zero = empty
with_layers f h (suc l) = with_row f l (2 ^ (h - l)) (with_layers f h l)

-- f at the places of a tree of height h, and nothing elsewhere
abbrev pub within : ℕ → PartialTree → PartialTree
within h f l i = (if nat_le l h && nat_lt i (2 ^ (h - l)) then f l i else None)

-- the finite map of what f has at the places of a tree of height h
unfoldable pub tabulate : ℕ → PartialTree → Known
tabulate h f = with_layers f h (suc h)
