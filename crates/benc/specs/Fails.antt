-- The first fault of an input: which, and where (this project's profile of BEP 3).
use Rattle.std.specs.Prelude.{◌≡◌, ℕ, suc, ◌-◌, ◌<◌, ◌^◌, List, [], ◌∷◌, ◌++◌, length, Option, Some, None, ◌⊎◌}
use Rattle.benc.specs.Ascii.{dict_mark, list_mark}
use Rattle.benc.specs.Value.{Bencode, Items, no_items, item, Pairs, no_pairs, pair}
use Rattle.benc.specs.Spelling.{max_open, string, IsAbove, SpelledItems, SpelledPairs, Spells}
use Rattle.benc.specs.Table.{first_row_fault, key_rows, unless_end, value_rows}
use Rattle.benc.specs.declared.fault.FaultKind.{FaultKind}
use Rattle.benc.specs.declared.fault.FaultKind.TheVariants.{Trailing}

-- what may stand next
pub data Due : Type 0 where
  a_value : Due
  a_value_or_end : Due
  a_key_or_end : Option (List ℕ) → Due

-- a container that is open, with what of it is finished
pub data Level : Type 0 where
  in_list : Items → Level
  in_dict : Pairs → Level
  at_value : Pairs → List ℕ → Level

-- the last key of the pairs, or else the key before them
abbrev pub last_key : Option (List ℕ) → Pairs → Option (List ℕ)
last_key before no_pairs = before
last_key before (pair k v ps) = last_key (Some k) ps

-- `IsLevel room l b`: b is the mark that opens l and the spelling of what of it is finished
abbrev pub IsLevel : ℕ → Level → List ℕ → Type 0
IsLevel room (in_list vs) b =
    (inner : List ℕ) × (b ≡ list_mark ∷ inner) × SpelledItems room vs inner
IsLevel room (in_dict ps) b =
    (inner : List ℕ) × (b ≡ dict_mark ∷ inner) × SpelledPairs room None ps inner
IsLevel room (at_value ps k) b =
    (inner : List ℕ) × (b ≡ dict_mark ∷ (inner ++ string k)) × SpelledPairs room None ps inner
    × (length k < 10 ^ 10) × IsAbove k (last_key None ps)

-- what is due after a level, which is the innermost
abbrev pub due_in : Level → Due
due_in (in_list vs) = a_value_or_end
due_in (in_dict ps) = a_key_or_end (last_key None ps)
due_in (at_value ps k) = a_value

-- a value may stand there, and so another container may be open in it
abbrev pub TakesValue : Level → Type 0
TakesValue (in_list vs) = Unit {0}
TakesValue (in_dict ps) = ⊥
TakesValue (at_value ps k) = Unit {0}

-- `Begun room due open p`: p stops between two items of a spelling that is not finished. `due` may
-- stand there, and `open` more containers may be opened
abbrev pub Begun : ℕ → List Level → List ℕ → Due → ℕ → Type 0
Begun room [] p due left = (p ≡ []) × (due ≡ a_value) × (left ≡ room)
Begun room (l ∷ []) p due left =
    (below : ℕ) × (room ≡ suc below) × IsLevel below l p × (due ≡ due_in l) × (left ≡ below)
Begun room (l ∷ m ∷ ls) p due left =
    (below : ℕ) × (first rest : List ℕ) × (room ≡ suc below) × (p ≡ first ++ rest)
    × IsLevel below l first × TakesValue l × Begun below (m ∷ ls) rest due left

-- the fault of an item that is due, by the table
abbrev pub item_fault : Due → ℕ → List ℕ → Option FaultKind
item_fault a_value left bytes = first_row_fault (value_rows left bytes)
item_fault a_value_or_end left bytes = first_row_fault (unless_end bytes (value_rows left bytes))
item_fault (a_key_or_end before) left bytes =
    first_row_fault (unless_end bytes (key_rows before bytes))

-- the bytes before `offset` are begun, and the item that is due there fails
pub record Stops (b : List ℕ) (kind : FaultKind) (offset : ℕ) : Type 0 where
  pub levels : List Level
  pub due : Due
  pub left : ℕ
  pub front : List ℕ
  pub rest : List ℕ
  pub parts : b ≡ front ++ rest
  pub place : offset ≡ length front
  pub begun : Begun max_open levels front due left
  pub fails : item_fault due left rest ≡ Some kind

-- the bytes before `offset` are a spelling, and bytes follow
pub record Trails (b : List ℕ) (kind : FaultKind) (offset : ℕ) : Type 0 where
  pub value : Bencode
  pub front : List ℕ
  pub rest : List ℕ
  pub parts : b ≡ front ++ rest
  pub place : offset ≡ length front
  pub spells : Spells value front
  pub more : 0 < length rest
  pub is : kind ≡ Trailing

-- this is the input's first fault: an item fails at the offset, or bytes follow a whole spelling
abbrev pub Fails : List ℕ → FaultKind → ℕ → Type 0
Fails b kind offset = Stops b kind offset ⊎ Trails b kind offset

-- a value may be what is due
abbrev pub TakesOne : Due → Type 0
TakesOne a_value = Unit {0}
TakesOne a_value_or_end = Unit {0}
TakesOne (a_key_or_end before) = ⊥

-- a list of which one item is finished, or a dictionary of which one pair is
abbrev pub HoldsOne : ℕ → List ℕ → Type 0
HoldsOne room b =
    ((v : Bencode) × IsLevel room (in_list (item v no_items)) b)
    ⊎ ((k : List ℕ) × (v : Bencode) × IsLevel room (in_dict (pair k v no_pairs)) b)

-- a list begins at the front with a whole item, or a dictionary with a whole pair: so it has to
-- grow
abbrev pub StartsGrowing : ℕ → List ℕ → Type 0
StartsGrowing room bytes = (first rest : List ℕ) × (bytes ≡ first ++ rest) × HoldsOne room first

-- `Reaches room bytes start`: at `start` a list or dictionary begins that may be opened and has to
-- grow
abbrev pub Reaches : ℕ → List ℕ → List ℕ → Type 0
Reaches room bytes start =
    (levels : List Level) × (due : Due) × (left : ℕ) × (front : List ℕ)
    × (bytes ≡ front ++ start) × Begun room levels front due left
    × TakesOne due × (0 < left) × StartsGrowing (left - 1) start

-- the bytes before `offset` are begun, and a list or dictionary begins there that has to grow
abbrev pub Opens : List ℕ → ℕ → Type 0
Opens b offset =
    (start : List ℕ) × (offset ≡ length b - length start) × Reaches max_open b start
