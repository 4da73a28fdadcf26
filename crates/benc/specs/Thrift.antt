-- How much room a decoded value takes beside what it holds.
use Rattle.std.specs.Prelude.{◌≡◌, ℕ, ◌*◌, ◌≤◌, Bool, true, ◌&&◌, nat_le, List, [], ◌∷◌, map, length, vec_capacity}
use Rattle.std.specs.Global.{Vec}
use Rattle.benc.specs.declared.value.Value.{Value, fold-Value}
use Rattle.benc.specs.declared.value.Value.TheOpen.{Value-F, Pair-F}
use Rattle.benc.specs.declared.value.Pair.{Pair, fold-Pair}

-- room for at most twice as many
abbrev pub IsSmallRoom : ℕ → ℕ → Type 0
IsSmallRoom room count = room ≤ 2 * count

-- all of these are true
abbrev pub all_true : List Bool → Bool
all_true [] = true
all_true (b ∷ bs) = b && all_true bs

-- a list has room for at most twice its items, and so has each list inside
abbrev pub list_is_thrifty : Vec Bool → Bool
list_is_thrifty v = nat_le (vec_capacity v) (2 * length v.items) && all_true v.items

-- one level, with each value inside already judged
abbrev pub thrift_step : Value-F Bool Bool → Bool
thrift_step (Value-F.Int z) = true
thrift_step (Value-F.Bytes s) = true
thrift_step (Value-F.List v) = list_is_thrifty v
thrift_step (Value-F.Dict v) = list_is_thrifty v

-- one pair, with its value already judged
abbrev pub pair_thrift_step : Pair-F Bool Bool → Bool
pair_thrift_step p = p.value

-- no list and no dictionary in the value has room for more than twice what it holds
abbrev pub is_thrifty : Value → Bool
is_thrifty = fold-Value Bool Bool thrift_step pair_thrift_step

abbrev pub IsValueThrifty : Value → Type 0
IsValueThrifty v = is_thrifty v ≡ true

-- each of these values is so
abbrev pub AreThrifty : List Value → Type 0
AreThrifty vs = all_true (map is_thrifty vs) ≡ true

-- the value of each of these pairs is so
abbrev pub pair_is_thrifty : Pair → Bool
pair_is_thrifty = fold-Pair Bool Bool thrift_step pair_thrift_step

abbrev pub ArePairsThrifty : List Pair → Type 0
ArePairsThrifty ps = all_true (map pair_is_thrifty ps) ≡ true
