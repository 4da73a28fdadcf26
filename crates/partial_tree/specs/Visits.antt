-- Claims of evidence that are visited, one after the other.
use Rattle.std.specs.Prelude.{◌≡◌, ◌⊎◌, ℕ, suc, ◌+◌, ◌-◌, ◌^◌, ◌<◌, ◌≤◌, List, [], ◌∷◌, length, Some, ⊤}
use Rattle.node_maps.specs.Digest.{Hash}
use Rattle.node_maps.specs.Places.{PartialTree}
use Rattle.partial_tree.specs.declared.message.found.Claim.{Claim}
use Rattle.partial_tree.specs.declared.message.evidence.Evidence.{Evidence}
use Rattle.partial_tree.specs.declared.message.row.HashRow.{HashRow}
use Rattle.partial_tree.specs.Claims.{sibling}
use Rattle.partial_tree.specs.Evidence.{AreClaims, HasClaim, LiesUnder, claimed_by, node_over_base}

-- from v such a visit of each claim, one after the other, leads to w
abbrev pub VisitsInTurn : {V : Type 0} → (V → Claim → V → Type 0) → V → List Claim → V → Type 0
VisitsInTurn Visit v [] w = w ≡ v
VisitsInTurn Visit v (c ∷ cs) w = (mid : _) × Visit v c mid × VisitsInTurn Visit mid cs w

-- each claim of C may be visited
abbrev pub AdmitsAll : {V : Type 0} → (V → Claim → Type 0) → PartialTree → V → Type 0
AdmitsAll Admits C v = (c : Claim) → C c.layer c.index ≡ Some c.hash → Admits v c

-- a claim of C ends the visits
abbrev pub StopsAtClaim : {V : Type 0} → (V → Claim → Type 0) → PartialTree → V → Type 0
StopsAtClaim Stops C v = (c : Claim) × (C c.layer c.index ≡ Some c.hash) × Stops v c

-- claims of C are visited, at most this many, and among them each that lies there
pub record Visits {V : Type 0} (Visit : V → Claim → V → Type 0) (C : PartialTree)
    (There : ℕ → ℕ → Type 0) (most : ℕ) (v w : V) : Type 0 where
  pub claims : List Claim
  pub run : VisitsInTurn Visit v claims w
  pub sound : AreClaims C claims
  pub complete : (l i : ℕ) (h : Hash) → There l i → C l i ≡ Some h → HasClaim claims l i h
  pub few : length claims ≤ most

-- (l, i) is a place of the row, or lies below one
abbrev pub LiesUnderRow : HashRow → ℕ → ℕ → Type 0
LiesUnderRow row l i = LiesUnder (row.layer + row.depth) row.node l i × (l ≤ row.layer)

-- (l, i) lies below a place of the row
abbrev pub LiesBelowRow : HashRow → ℕ → ℕ → Type 0
LiesBelowRow row l i = LiesUnder (row.layer + row.depth) row.node l i × (l < row.layer)

-- how many places lie under the node over a row, from the row down
abbrev pub places_under : HashRow → ℕ
places_under row = 2 ^ suc (row.layer + row.depth) - 2 ^ row.depth

-- and below the row
abbrev pub places_below : HashRow → ℕ
places_below row = 2 ^ suc (row.layer + row.depth) - 2 ^ suc row.depth

-- the claims from the row down are visited
abbrev pub VisitsRow : {V : Type 0} → (V → Claim → V → Type 0) → PartialTree → HashRow → V → V
    → Type 0
VisitsRow Visit C row v w = Visits Visit C (LiesUnderRow row) (places_under row) v w

-- those below the row are visited
abbrev pub VisitsBelowRow : {V : Type 0} → (V → Claim → V → Type 0) → PartialTree → HashRow → V → V
    → Type 0
VisitsBelowRow Visit C row v w = Visits Visit C (LiesBelowRow row) (places_below row) v w

-- (l, i) is the uncle's place on a layer, or that of the node above it
abbrev pub IsOfPair : Evidence → ℕ → ℕ → ℕ → Type 0
IsOfPair e layer l i = ((l ≡ layer) × (i ≡ sibling (node_over_base e layer)))
    ⊎ ((l ≡ layer + 1) × (i ≡ node_over_base e (layer + 1)))

-- these two claims are visited
abbrev pub VisitsPair : {V : Type 0} → (V → Claim → V → Type 0) → Evidence → ℕ → V → V → Type 0
VisitsPair Visit e layer v w = Visits Visit (claimed_by e) (IsOfPair e layer) 2 v w

-- all claims are visited: no tree has 2 ^ 40 places
abbrev pub VisitsAll : {V : Type 0} → (V → Claim → V → Type 0) → PartialTree → V → V → Type 0
VisitsAll Visit C v w = Visits Visit C (λ l i. ⊤) (2 ^ 40) v w
