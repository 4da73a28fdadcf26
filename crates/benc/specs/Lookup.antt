-- Looking into dictionaries (BEP 3, "bencoding").
use Rattle.std.specs.Prelude.{◌≡◌, ℕ, List, ◌++◌, Option, Some, None, if◌then◌else◌}
use Rattle.std.specs.Option.{option_map}
use Rattle.std.specs.Str.{bytes_eq}
use Rattle.benc.specs.Spelling.{string}
use Rattle.benc.specs.Text.{spelling}
use Rattle.benc.specs.Value.{Bencode, int, text, list, dict, Pairs, no_pairs, pair}

-- the first value under a key; a value that has a spelling has no key twice
abbrev pub under : List ℕ → Pairs → Option Bencode
under key no_pairs = None
under key (pair k v ps) = if bytes_eq k key then Some v else under key ps

-- the first value under a key of a dictionary; no other value has keys
abbrev pub get : List ℕ → Bencode → Option Bencode
get key (int z) = None
get key (text s) = None
get key (list vs) = None
get key (dict ps) = under key ps

-- the bytes of the first value under a key
abbrev pub span_of : List ℕ → Bencode → Option (List ℕ)
span_of key v = option_map spelling (get key v)

-- the bytes of a value, if its key is the one that is looked for
abbrev pub if_key : List ℕ → List ℕ → List ℕ → Option (List ℕ)
if_key key name bytes = if bytes_eq name key then Some bytes else None

-- the bytes stand in the input, directly after the key
abbrev pub StandsUnder : List ℕ → List ℕ → List ℕ → Type 0
StandsUnder input key bytes =
    (front rest : List ℕ) × (input ≡ front ++ (string key ++ (bytes ++ rest)))
