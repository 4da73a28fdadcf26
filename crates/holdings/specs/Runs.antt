-- What blocks that came, and what was settled, make of what is held: in every run, whatever else
-- happens to the session in between.
use Rattle.std.specs.Prelude.{◌≡◌, ◌⊎◌, ℕ, ◌+◌, ◌≤◌, ◌==◌, ◌&&◌, if◌then◌else◌, List, [], ◌∷◌, Option, Some, None}
use Rattle.std.specs.FinMap.{empty}
use Rattle.opening.specs.Description.{Description}
use Rattle.session.specs.Layouts.{tree_of}
use Rattle.session.specs.Session.{SessionSeen, HasClosedTrees, IsFileBlock}
use Rattle.holdings.specs.declared.holding.Hold.{Hold}
use Rattle.holdings.specs.declared.holding.Hold.TheVariants.{Held}
use Rattle.holdings.specs.declared.piece_range.Pieces.{Pieces}
use Rattle.holdings.specs.declared.run.Run.{Run}
use Rattle.holdings.specs.declared.run.Settled.{Settled}
use Rattle.holdings.specs.declared.run.Settled.TheVariants.{Proved}
use Rattle.holdings.specs.Holdings.{HoldingsSeen}
use Rattle.holdings.specs.Holding.{IsBlockHeldBy}
use Rattle.holdings.specs.Next.{SettlesNext}

-- something that happens: bytes for block b of tree n are to be held; one settling; or anything
-- else happens to the session
pub data Act : Type 0 where
  Holds : (n b : ℕ) → (bytes : List ℕ) → Hold → Act
  Settling : Pieces → Settled → Act
  Elsewhere : Act

-- what it does to a session and to what is held beside it
abbrev pub Does : SessionSeen → HoldingsSeen → Act → SessionSeen → HoldingsSeen → Type 0
Does S h (Holds n b bytes r) S' h' = IsBlockHeldBy h S n b bytes r h' × (S' ≡ S)
Does S h (Settling p e) S' h' = (p' : Pieces) × SettlesNext S h p e S' h' p'
Does S h Elsewhere S' h' = h' ≡ h

-- a session of this torrent
pub record IsSessionOf (d : Description) (S : SessionSeen) : Type 0 where
  pub torrent : S.torrent ≡ d
  pub closed : HasClosedTrees S

-- such acts, the last one first, led from nothing held to this state
abbrev pub Past : Description → List Act → SessionSeen → HoldingsSeen → Type 0
Past d [] S h = IsSessionOf d S × (h.pieces ≡ empty)
Past d (a ∷ past) S' h' = IsSessionOf d S' × ((S : SessionSeen) × (h : HoldingsSeen)
    × Past d past S h × Does S h a S' h')

-- the newest bytes that were held for block b of tree n
abbrev pub newest : List Act → ℕ → ℕ → Option (List ℕ)
newest [] n b = None
newest (Holds m c bytes (Held dropped) ∷ past) n b =
    (if m == n && c == b then Some bytes else newest past n b)
newest (a ∷ past) n b = newest past n b

-- the newest bytes that came for a block are that block of every file of the tree, or two inputs
-- with one digest are named
abbrev pub CameAsTheBlock : List Act → SessionSeen → ℕ → ℕ → Type 0
CameAsTheBlock past S n b = (bytes : List ℕ) × (newest past n b ≡ Some bytes)
    × ((file : ℕ) → tree_of S file ≡ Some n → IsFileBlock S file b bytes)

-- IN EVERY RUN: a block that is proved was, when it came last, that block of every file with the
-- tree's length and root, or two inputs with one digest are named
abbrev pub ProvedWasTheBlock : Type 0
ProvedWasTheBlock = (d : Description) (past : List Act) (S : SessionSeen) (h : HoldingsSeen)
    (p : Pieces) (run : Run) (S' : SessionSeen) (h' : HoldingsSeen) → Past d past S h
    → IsSessionOf d S' → Does S h (Settling p (Proved run)) S' h' → (b : ℕ) → run.first ≤ b
    → b ≤ run.last → CameAsTheBlock past S' run.tree b
