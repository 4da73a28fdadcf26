-- Hashes as evidence of the nodes of a tree, and what was found in them that is not known yet.
use Rattle.std.specs.Prelude.{◌≡◌, ◌≢◌, ◌⊎◌, ℕ, ◌+◌, ◌-◌, ◌/◌, ◌%◌, ◌^◌, ◌<◌, ◌≤◌, true, false, List, [], ◌∷◌, ◌++◌, length, replicate, Some, None}
use Rattle.std.specs.List.{All}
use Rattle.wire.specs.declared.message.Ask.{Ask}
use Rattle.partial_tree.specs.declared.message.evidence.Evidence.{Evidence}
use Rattle.partial_tree.specs.declared.message.found.Claim.{Claim}
use Rattle.partial_tree.specs.declared.message.found.NewClaims.{NewClaims}
use Rattle.partial_tree.specs.declared.refusal.HashRefusal.{HashRefusal}
use Rattle.partial_tree.specs.declared.refusal.HashRefusal.TheVariants.{Mismatch, NoMemory}
use Rattle.node_maps.specs.Digest.{Hash}
use Rattle.node_maps.specs.Places.{PartialTree, IsKnown, IsTreePlace}
use Rattle.node_maps.specs.Known.{Known, look}
use Rattle.partial_tree.specs.MessagePages.{row_height_of, row_first_of, pages_up_to}
use Rattle.partial_tree.specs.Claims.{given, claims, joined, HasNew, IsAgreed, IsMismatch}

-- the fields are small
pub record IsInside (e : Evidence) : Type 0 where
  pub base : e.base ≤ 32
  pub index : e.index < 2 ^ 32
  pub span : e.span ≤ 32

-- the base range as an ask
abbrev pub range_of : Evidence → Ask
range_of e = record { root = []; base = e.base; index = e.index; length = 2 ^ e.span; proof = 0 }

-- the hashes, with pads up to the end of the base range
abbrev pub hashes_of : Evidence → List Hash
hashes_of e = e.hashes.now ++ replicate (2 ^ e.span - length e.hashes.now) e.pad

-- the hash that is given for a place
abbrev pub given_by : Evidence → PartialTree
given_by e = given (range_of e) (hashes_of e)

-- the hash that is claimed for a place
abbrev pub claimed_by : Evidence → PartialTree
claimed_by e = claims (range_of e) (hashes_of e)

-- (l, i) is the place (layer, index), or lies below it
abbrev pub LiesUnder : ℕ → ℕ → ℕ → ℕ → Type 0
LiesUnder layer index l i = (l ≤ layer) × (i / 2 ^ (layer - l) ≡ index)

-- nothing is claimed below a given hash
pub record IsPruned (e : Evidence) : Type 0 where
  pub below : (layer index l i : ℕ) (v w : Hash) → given_by e layer index ≡ Some v
      → LiesUnder layer index l i → l < layer → claimed_by e l i ≡ Some w → ⊥

-- the place lies in a tree, and what is claimed there follows from what is given
pub record IsClaimedPlace (e : Evidence) (layer index : ℕ) : Type 0 where
  pub inside : IsInside e
  pub place : IsTreePlace 32 layer index
  pub pruned : IsPruned e
  pub claimed : IsKnown (claimed_by e) layer index

-- how far above a layer stands the node under which all claims of that layer lie
abbrev pub row_height : Evidence → ℕ → ℕ
row_height e l = row_height_of e.base e.span l

-- the first place of the layer under that node, of 2 ^ row_height many
abbrev pub row_first : Evidence → ℕ → ℕ
row_first e l = row_first_of e.base e.index e.span l

-- how many pages have the places of these rows, below the layer `top` and with the top itself
abbrev pub claimed_pages : Evidence → ℕ → ℕ
claimed_pages e top = pages_up_to e.base e.index e.span top

-- the place stands over the whole base range, which begins at a multiple of its length
pub record IsOver (e : Evidence) (layer index : ℕ) : Type 0 where
  pub aligned : e.index % 2 ^ e.span ≡ 0
  pub covers : e.base + e.span ≤ layer
  pub over : e.index / 2 ^ (layer - e.base) ≡ index

-- the node over the base range on a layer
abbrev pub node_over_base : Evidence → ℕ → ℕ
node_over_base e l = e.index / 2 ^ (l - e.base)

-- all that is claimed leads to one place
pub record LeadsTo (e : Evidence) (layer index : ℕ) : Type 0 where
  pub is_over : IsOver e layer index
  pub pruned : IsPruned e
  pub at_top : IsKnown (claimed_by e) layer index
  pub under_top : (l i : ℕ) (v : Hash) → claimed_by e l i ≡ Some v → LiesUnder layer index l i

-- all that is claimed leads to a place of a tree on this layer
pub record LeadsUp (e : Evidence) (layer : ℕ) : Type 0 where
  pub inside : IsInside e
  pub place : IsTreePlace 32 layer (node_over_base e layer)
  pub leads : LeadsTo e layer (node_over_base e layer)

-- the list has the claim of v at (l, i)
abbrev pub HasClaim : List Claim → ℕ → ℕ → Hash → Type 0
HasClaim [] l i v = ⊥
HasClaim (c ∷ cs) l i v = ((c.layer ≡ l) × (c.index ≡ i) × (c.hash ≡ v)) ⊎ HasClaim cs l i v

-- the claim is listed, unless the list is incomplete
abbrev pub IsNoted : NewClaims → ℕ → ℕ → Hash → Type 0
IsNoted found l i v = (found.incomplete ≡ true) ⊎ HasClaim found.claims.items l i v

-- what is noted stays noted
pub record Grows (before after : NewClaims) : Type 0 where
  pub keeps : (l i : ℕ) (v : Hash) → IsNoted before l i v → IsNoted after l i v

-- no claim is noted
pub record IsEmpty (found : NewClaims) : Type 0 where
  pub complete : found.incomplete ≡ false
  pub none : found.claims.items ≡ []

-- if a claim is noted, C has a value at a place where K has none
abbrev pub NotesNew : PartialTree → PartialTree → NewClaims → Type 0
NotesNew K C found = IsEmpty found ⊎ HasNew K C

-- each claim is one of C
abbrev pub AreClaims : PartialTree → List Claim → Type 0
AreClaims C cs = All (λ (c : Claim). C c.layer c.index ≡ Some c.hash) cs

-- what C claims at the place is known in K, or is noted and not known
abbrev pub IsHandled : PartialTree → PartialTree → NewClaims → ℕ → ℕ → Type 0
IsHandled C K found l i = (v : Hash) → C l i ≡ Some v → (K l i ≡ Some v)
    ⊎ ((K l i ≡ None) × IsNoted found l i v)

-- all that C claims is known in K, or is noted; each noted claim is one of C, and if any is noted
-- C has a value at a place where K has none
pub record FindsClaims (K C : PartialTree) (found : NewClaims) : Type 0 where
  pub handled : (l i : ℕ) → IsHandled C K found l i
  pub sound : AreClaims C found.claims.items
  pub notes_new : NotesNew K C found

-- the claim is known, or is noted and not known
abbrev pub IsHandledClaim : Known → NewClaims → Claim → Type 0
IsHandledClaim m found c = (look m c.layer c.index ≡ Some c.hash)
    ⊎ ((look m c.layer c.index ≡ None) × IsNoted found c.layer c.index c.hash)

-- another hash is known at its place
abbrev pub DiffersFrom : Known → Claim → Type 0
DiffersFrom m c = (v : Hash) × (look m c.layer c.index ≡ Some v) × (v ≢ c.hash)

-- what a claim, compared with what is known and not other than that, makes of the list
pub record Notes (m : Known) (before : NewClaims) (c : Claim) (after : NewClaims) : Type 0 where
  pub handled : IsHandledClaim m after c
  pub grows : Grows before after
  pub sound : (C : PartialTree) → C c.layer c.index ≡ Some c.hash
      → AreClaims C before.claims.items → AreClaims C after.claims.items
  pub notes_new : (C : PartialTree) → C c.layer c.index ≡ Some c.hash
      → NotesNew (look m) C before → NotesNew (look m) C after

-- why claims are not stored
abbrev pub StoreFault : PartialTree → PartialTree → HashRefusal → Type 0
StoreFault K C Mismatch = IsMismatch K C
StoreFault K C NoMemory = IsAgreed K C × HasNew K C
StoreFault K C r = ⊥

-- why claims are not stored beside pads
abbrev pub EndFault : PartialTree → PartialTree → PartialTree → HashRefusal → Type 0
EndFault K C P Mismatch = IsMismatch K C
EndFault K C P NoMemory = IsAgreed K C × HasNew K (joined C P)
EndFault K C P r = ⊥
