-- Looking into bencoded values (BEP 3, "bencoding").
use Rattle.std.specs.Prelude.{ℕ, ℤ, List, [], ◌∷◌, Option, Some, None}
use Rattle.std.specs.Cmp.Lexicographic.{slice_cmp}
use Rattle.std.specs.List.Sorted.{IsStrictlySortedBy}
use Rattle.std.specs.Ordering.{nat_cmp}
use Rattle.benc.specs.Value.{Bencode, int, text, list, dict, Items, Pairs, no_pairs, pair}
pub use Rattle.benc.specs.Lookup.{get, under}

abbrev pub as_int : Bencode → Option ℤ
as_int (int z) = Some z
as_int (text s) = None
as_int (list vs) = None
as_int (dict ps) = None

abbrev pub as_text : Bencode → Option (List ℕ)
as_text (int z) = None
as_text (text s) = Some s
as_text (list vs) = None
as_text (dict ps) = None

abbrev pub as_list : Bencode → Option Items
as_list (int z) = None
as_list (text s) = None
as_list (list vs) = Some vs
as_list (dict ps) = None

abbrev pub as_dict : Bencode → Option Pairs
as_dict (int z) = None
as_dict (text s) = None
as_dict (list vs) = None
as_dict (dict ps) = Some ps

-- the value under a key, or an empty dictionary
abbrev pub value_under_key : List ℕ → Bencode → Bencode
value_under_key key v = or_empty (get key v)
  where
    or_empty : Option Bencode → Bencode
    or_empty None = dict no_pairs
    or_empty (Some w) = w

-- the pairs of a dictionary; no other value has any
abbrev pub pairs_in : Bencode → Pairs
pairs_in (int z) = no_pairs
pairs_in (text s) = no_pairs
pairs_in (list vs) = no_pairs
pairs_in (dict ps) = ps

-- the keys of a dictionary
abbrev pub keys_in : Pairs → List (List ℕ)
keys_in no_pairs = []
keys_in (pair k v ps) = k ∷ keys_in ps

-- each key is below those after it
abbrev pub Ascends : Pairs → Type 0
Ascends ps = IsStrictlySortedBy (slice_cmp nat_cmp) (keys_in ps)
