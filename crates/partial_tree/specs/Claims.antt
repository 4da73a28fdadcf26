-- What a hashes message claims (BEP 52, "hash request", "hashes"), and when it is refused.
use Rattle.std.specs.Prelude.{◌≡◌, ◌≢◌, ℕ, zero, suc, ◌+◌, ◌-◌, ◌*◌, ◌/◌, ◌%◌, ◌^◌, ◌<◌, ◌≤◌, min, nat_le, nat_lt, ◌==◌, if◌then◌else◌, ◌&&◌, List, ◌++◌, map}
use Rattle.std.specs.Prelude.{length, slice_get, Option, Some, None}
use Rattle.std.specs.Option.{option_or, unwrap_or}
use Rattle.std.specs.List.{All, range_with_len}
use Rattle.wire.specs.declared.message.Ask.{Ask}
use Rattle.node_maps.specs.Places.{tree_height, PartialTree, IsKnown}
use Rattle.partial_tree.specs.Names.{hash_refusal_number}
use Rattle.partial_tree.specs.declared.refusal.HashRefusal.{HashRefusal}
use Rattle.partial_tree.specs.declared.refusal.HashRefusal.TheVariants.{UnknownRoot, BadRange, BadCount, BadPad, Unanchored, Mismatch, NoMemory, Unasked}
use Rattle.node_maps.specs.Digest.{Hash, IsHash, join}
use Rattle.hashtree.specs.Tree.{pad_leaf, block_count, height, zero_hash}

-- each of them is a hash
abbrev pub AreHashes : List Hash → Type 0
AreHashes = All IsHash

-- the longest base range
abbrev pub most_asked : ℕ
most_asked = 8192

-- it spans this many layers
abbrev pub most_span : ℕ
most_span = 13

-- how many layers the base range spans: its length is 2 ^ span
abbrev pub span : Ask → ℕ
span ask = height ask.length

-- the layer of the node that covers the base range, the first one at which an uncle may stand
abbrev pub cover : Ask → ℕ
cover ask = ask.base + span ask

-- the number, on a layer from the cover up, of the node above the base range
abbrev pub above : Ask → ℕ → ℕ
above ask l = ask.index / 2 ^ (l - ask.base)

-- the other child of the parent
abbrev pub sibling : ℕ → ℕ
sibling i = 2 * (i / 2) + (1 - i % 2)

-- how many uncles a message has: the hashes after the base range
abbrev pub uncles : Ask → List Hash → ℕ
uncles ask hashes = length hashes - ask.length

-- the base hash of a place, if it has one
abbrev pub base_hash : Ask → List Hash → PartialTree
base_hash ask hashes l i =
    (if l == ask.base && (nat_le ask.index i && nat_lt i (ask.index + ask.length))
    then slice_get hashes (i - ask.index) else None)

-- the uncle of a place, if it has one: the sibling of a node above the base range
abbrev pub uncle_hash : Ask → List Hash → PartialTree
uncle_hash ask hashes l i =
    (if nat_le (cover ask) l && i == sibling (above ask l)
    then slice_get hashes (ask.length + (l - cover ask)) else None)

-- the hash that the message gives for a place
abbrev pub given : Ask → List Hash → PartialTree
given ask hashes l i = option_or (base_hash ask hashes l i) (uncle_hash ask hashes l i)

-- the join of two hashes, if both are there
abbrev pub join_both : Option Hash → Option Hash → Option Hash
join_both None right = None
join_both (Some left) None = None
join_both (Some left) (Some right) = Some (join left right)

-- what the message claims: the hashes that it gives, and the join of each two claimed siblings at
-- their parent
unfoldable pub claims : Ask → List Hash → PartialTree
claims ask hashes zero i = given ask hashes zero i
claims ask hashes (suc l) i =
    option_or (given ask hashes (suc l) i)
    (join_both (claims ask hashes l (2 * i)) (claims ask hashes l (2 * i + 1)))

-- the layer of the last place that follows: of the node above the base range over the last uncle
abbrev pub top_layer : Ask → List Hash → ℕ
top_layer ask hashes = cover ask + uncles ask hashes

-- and its number on that layer
abbrev pub top_index : Ask → List Hash → ℕ
top_index ask hashes = above ask (top_layer ask hashes)

-- the base range lies in a tree of height h, at a multiple of its length, a power of two from 2 to
-- `most_asked`
pub record GoodRange (h : ℕ) (ask : Ask) : Type 0 where
  pub power_of_two : 2 ^ span ask ≡ ask.length
  pub least : 2 ≤ ask.length
  pub most : ask.length ≤ most_asked
  pub aligned : ask.index % ask.length ≡ 0
  pub base_inside : ask.base ≤ h
  pub range_inside : ask.index + ask.length ≤ 2 ^ (h - ask.base)

-- each base hash is there, and the uncles are no more than were asked for and do not pass the root
pub record GoodCount (h : ℕ) (ask : Ask) (hashes : List Hash) : Type 0 where
  pub enough : ask.length ≤ length hashes
  pub asked : uncles ask hashes ≤ ask.proof
  pub top_inside : top_layer ask hashes ≤ h

-- a given hash wholly past the file's end is not that over pads
pub record IsBadPad (len : ℕ) (ask : Ask) (hashes : List Hash) : Type 0 where
  pub layer : ℕ
  pub index : ℕ
  pub value : Hash
  pub is_given : given ask hashes layer index ≡ Some value
  pub past : block_count len ≤ index * 2 ^ layer
  pub differ : value ≢ zero_hash layer

-- each given hash wholly past the file's end is that over pads
abbrev pub ArePadsRight : ℕ → Ask → List Hash → Type 0
ArePadsRight len ask hashes = (l i : ℕ) (v : Hash) → given ask hashes l i ≡ Some v
    → block_count len ≤ i * 2 ^ l → v ≡ zero_hash l

-- J and K have one value wherever both have one
abbrev pub IsAgreed : PartialTree → PartialTree → Type 0
IsAgreed J K = (l i : ℕ) (u v : Hash) → J l i ≡ Some u → K l i ≡ Some v → u ≡ v

-- J and K differ at a place that both have
pub record IsMismatch (J K : PartialTree) : Type 0 where
  pub layer : ℕ
  pub index : ℕ
  pub in_J : Hash
  pub in_K : Hash
  pub J_known : J layer index ≡ Some in_J
  pub K_known : K layer index ≡ Some in_K
  pub differ : in_J ≢ in_K

-- C has a value at a place where K has none
pub record HasNew (K C : PartialTree) : Type 0 where
  pub layer : ℕ
  pub index : ℕ
  pub value : Hash
  pub claimed : C layer index ≡ Some value
  pub absent : K layer index ≡ None

-- what each refusal says of a message for a tree of files of this length, of which K is known
abbrev pub Fault : ℕ → PartialTree → Ask → List Hash → HashRefusal → Type 0
Fault len K ask hashes UnknownRoot = ⊥
Fault len K ask hashes BadRange = ¬ GoodRange (tree_height len) ask
Fault len K ask hashes BadCount = ¬ GoodCount (tree_height len) ask hashes
Fault len K ask hashes BadPad = IsBadPad len ask hashes
Fault len K ask hashes Unanchored = K (top_layer ask hashes) (top_index ask hashes) ≡ None
Fault len K ask hashes Mismatch = IsMismatch K (claims ask hashes)
Fault len K ask hashes NoMemory = ⊥
Fault len K ask hashes Unasked = ⊥

-- r is the first refusal, by their numbers, whose fault the message has
pub record Refuses (len : ℕ) (K : PartialTree) (ask : Ask) (hashes : List Hash) (r : HashRefusal)
    : Type 0 where
  pub fault : Fault len K ask hashes r
  pub first : (s : HashRefusal) → hash_refusal_number s < hash_refusal_number r
      → ¬ Fault len K ask hashes s

-- the message has none of these faults
pub record IsAccepted (len : ℕ) (K : PartialTree) (ask : Ask) (hashes : List Hash) : Type 0 where
  pub range : GoodRange (tree_height len) ask
  pub count : GoodCount (tree_height len) ask hashes
  pub pads : ArePadsRight len ask hashes
  pub top_known : IsKnown K (top_layer ask hashes) (top_index ask hashes)
  pub agrees : IsAgreed K (claims ask hashes)

-- why a message is refused: the first test that fails; or out of memory, if none does and a place
-- is new
abbrev pub TreeRefuses : ℕ → PartialTree → Ask → List Hash → HashRefusal → Type 0
TreeRefuses len K ask hashes NoMemory = IsAccepted len K ask hashes
    × HasNew K (claims ask hashes)
TreeRefuses len K ask hashes r = Refuses len K ask hashes r

-- K and what is claimed beside it
abbrev pub joined : PartialTree → PartialTree → PartialTree
joined K C l i = option_or (K l i) (C l i)

-- the value at a place; the pad leaf if there is none
abbrev pub hash_or_pad : PartialTree → ℕ → ℕ → Hash
hash_or_pad K l i = unwrap_or (K l i) pad_leaf

-- the base range of an ask is good and known
pub record CanAnswer (h : ℕ) (K : PartialTree) (ask : Ask) : Type 0 where
  pub range : GoodRange h ask
  pub base_known : (j : ℕ) → j < ask.length → IsKnown K ask.base (ask.index + j)

-- how many uncles an answer has: those asked for less those that the base range itself gives, and
-- none past the root
abbrev pub answer_uncles : ℕ → Ask → ℕ
answer_uncles h ask = min (ask.proof - (span ask - 1)) (h - ask.base - span ask)

-- the hashes of an answer: the base range, and then the uncles, the one nearest the root last
abbrev pub answer_of : ℕ → PartialTree → Ask → List Hash
answer_of h K ask =
    map (λ j. hash_or_pad K ask.base (ask.index + j)) (range_with_len 0 ask.length)
    ++ map (λ j. hash_or_pad K (cover ask + j) (sibling (above ask (cover ask + j))))
    (range_with_len 0 (answer_uncles h ask))

-- each hash that the message gives is what J has at its place
abbrev pub IsHeldBy : PartialTree → Ask → List Hash → Type 0
IsHeldBy J ask hashes = (l i : ℕ) (v : Hash) → given ask hashes l i ≡ Some v → J l i ≡ Some v
