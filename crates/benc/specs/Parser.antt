-- The parser's own contracts cite these, no public clause does; the table and `Fails` are the
-- definition. Reading from left to right: the value at the front and what follows it, or the first
-- fault and what is left from the failing item on.
use Rattle.std.specs.Prelude.{◌≡◌, ℕ, zero, suc, ◌<◌, ◌^◌, ◌==◌, ◌⊎◌, if◌then◌else◌, List, [], ◌∷◌, ◌++◌, length, Option, Some, None, IfSome, Result, Ok, Err}
use Rattle.std.specs.Borrow.{Bor}
use Rattle.std.specs.Option.{option_copied}
use Rattle.benc.specs.Lookup.{StandsUnder, span_of}
use Rattle.benc.specs.Ascii.{dict_mark, end_mark, integer_mark, list_mark}
use Rattle.benc.specs.Value.{Bencode, int, text, list, dict, Items, no_items, item, Pairs, no_pairs, pair}
use Rattle.benc.specs.Spelling.{string, IsAbove, SpelledItems, SpelledPairs}
use Rattle.benc.specs.Fails.{last_key, Reaches}
use Rattle.benc.specs.Digits.{is_digit}
use Rattle.benc.specs.Items.{integer_at, string_at, key_at}
use Rattle.benc.specs.declared.fault.FaultKind.{FaultKind}
use Rattle.benc.specs.declared.fault.FaultKind.TheVariants.{Truncated, BadStart, TooDeep}
use Rattle.benc.specs.declared.stop.Stop.{Stop}

-- a fault, and what is left from the failing item on
abbrev pub Failed : Type 0
Failed = FaultKind × List ℕ

-- what is read and what follows it, or a fault
abbrev pub Parsed : Type 0 → Type 0
Parsed A = Result (A × List ℕ) Failed

-- goes on with what is read, unless there is a fault
infixl 10 ◌>>=◌
abbrev pub ◌>>=◌ : {A B : Type 0} → Result A Failed → (A → Result B Failed) → Result B Failed
(Ok x) >>= f = f x
(Err e) >>= f = Err e

-- what an item of the table gives, which began at these bytes
abbrev pub begun_at : {A : Type 0} → List ℕ → Result A FaultKind → Result A Failed
begun_at start (Ok x) = Ok x
begun_at start (Err f) = Err (f, start)

-- `items_at read n bytes`: items and the end mark, in at most n turns; the bytes' length is enough
unfoldable pub items_at : (List ℕ → Parsed Bencode) → ℕ → List ℕ → Parsed Items
items_at read n [] = Err (Truncated, [])
items_at read zero (c ∷ rest) = Err (Truncated, [])
items_at read (suc n) (c ∷ rest) =
    if c == end_mark then Ok (no_items, rest)
    else (read (c ∷ rest) >>= λ x. items_at read n x.1 >>= λ y. Ok (item x.0 y.0, y.1))

-- `pairs_at read n before bytes`: pairs, after the key `before`, and the end mark, in at most n
-- turns
unfoldable pub pairs_at : (List ℕ → Parsed Bencode) → ℕ → Option (List ℕ) → List ℕ → Parsed Pairs
pairs_at read n before [] = Err (Truncated, [])
pairs_at read zero before (c ∷ rest) = Err (Truncated, [])
pairs_at read (suc n) before (c ∷ rest) =
    if c == end_mark then Ok (no_pairs, rest)
    else (begun_at (c ∷ rest) (key_at before (c ∷ rest)) >>= λ k. read k.1
    >>= λ x. pairs_at read n (Some k.0) x.1 >>= λ y. Ok (pair k.0 x.0 y.0, y.1))

-- a value, by what reads the items of a list and the pairs of a dictionary
abbrev pub value_with :
    (List ℕ → List ℕ → Parsed Items) → (List ℕ → List ℕ → Parsed Pairs) → List ℕ → Parsed Bencode
value_with items pairs [] = Err (Truncated, [])
value_with items pairs (c ∷ rest) =
    if c == integer_mark then (begun_at (c ∷ rest) (integer_at rest) >>= λ x. Ok (int x.0, x.1))
    else (if c == list_mark then (items (c ∷ rest) rest >>= λ x. Ok (list x.0, x.1))
    else (if c == dict_mark then (pairs (c ∷ rest) rest >>= λ x. Ok (dict x.0, x.1))
    else (if is_digit c
    then (begun_at (c ∷ rest) (string_at (c ∷ rest)) >>= λ x. Ok (text x.0, x.1))
    else Err (BadStart, c ∷ rest))))

-- a value, in which at most `room` lists and dictionaries may be open at once
unfoldable pub value_at : ℕ → List ℕ → Parsed Bencode
value_at zero = value_with (λ start rest. Err (TooDeep, start)) (λ start rest. Err (TooDeep, start))
value_at (suc room) = value_with
    (λ start rest. items_at (value_at room) (length rest) rest)
    (λ start rest. pairs_at (value_at room) (length rest) None rest)

-- the items and the end mark, after the mark of a list
abbrev pub items_behind : ℕ → List ℕ → Parsed Items
items_behind room bytes = items_at (value_at room) (length bytes) bytes

-- the pairs and the end mark, after the mark of a dictionary
abbrev pub pairs_behind : ℕ → List ℕ → Parsed Pairs
pairs_behind room bytes = pairs_at (value_at room) (length bytes) None bytes

-- why reading stopped, and what is left from there on
abbrev pub stop_of : Stop → FaultKind × List ℕ
stop_of e = (e.kind, e.rest.now)

-- the function of the code answers the fault that reading gives, or what reading leaves
abbrev pub ReadsOn : {X Y : Type 0} → (X → List ℕ) → Result X Stop → Parsed Y → Type 0
ReadsOn left (Ok x) read = (read >>= λ y. Ok y.1) ≡ Ok (left x)
ReadsOn left (Err e) read = read ≡ Err (stop_of e)

-- a whole item stands at the front
abbrev pub HasItem : ℕ → List ℕ → Type 0
HasItem room bytes =
    (v : Bencode) × (inner rest : List ℕ) × (bytes ≡ inner ++ rest)
    × SpelledItems room (item v no_items) inner

-- a whole pair stands at the front
abbrev pub HasPair : ℕ → List ℕ → Type 0
HasPair room bytes =
    (k : List ℕ) × (v : Bencode) × (inner rest : List ℕ) × (bytes ≡ inner ++ rest)
    × SpelledPairs room None (pair k v no_pairs) inner

-- after some finished items a container is reached
abbrev pub ReachesItem : ℕ → List ℕ → List ℕ → Type 0
ReachesItem room bytes start =
    (vs : Items) × (inner rest : List ℕ) × (bytes ≡ inner ++ rest)
    × SpelledItems room vs inner × Reaches room rest start

-- after some finished pairs and a key one is reached
abbrev pub ReachesPair : ℕ → List ℕ → List ℕ → Type 0
ReachesPair room bytes start =
    (ps : Pairs) × (k inner rest : List ℕ) × (bytes ≡ inner ++ (string k ++ rest))
    × SpelledPairs room None ps inner × (length k < 10 ^ 10) × IsAbove k (last_key None ps)
    × Reaches room rest start

-- at `there` a list begins that has to grow: the one that begins at `start`, or one after some
-- finished items
abbrev pub GrowsForItem : ℕ → List ℕ → List ℕ → List ℕ → Type 0
GrowsForItem room start bytes there =
    ((there ≡ start) × HasItem room bytes) ⊎ ReachesItem room bytes there

-- at `there` a dictionary begins that has to grow
abbrev pub GrowsForPair : ℕ → List ℕ → List ℕ → List ℕ → Type 0
GrowsForPair room start bytes there =
    ((there ≡ start) × HasPair room bytes) ⊎ ReachesPair room bytes there

-- the bytes of the value under the key that is asked for, if one is
abbrev pub IsValueSpan : Option (Bor (List ℕ)) → Bencode → Option (Bor (List ℕ)) → Type 0
IsValueSpan asked v span = IfSome (option_copied asked) (λ key. option_copied span ≡ span_of key v)

-- they stand in the input, after that key
abbrev pub StandsInInput : List ℕ → Option (Bor (List ℕ)) → Option (Bor (List ℕ)) → Type 0
StandsInInput input asked span =
    IfSome (option_copied asked) (λ key. IfSome (option_copied span) (StandsUnder input key))
