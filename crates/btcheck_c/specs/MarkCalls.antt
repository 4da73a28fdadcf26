-- What the calls on marked blocks write.
use Rattle.std.specs.Prelude.{◌≡◌, ◌⊎◌, ℕ, ◌≤◌, List, length}
use Rattle.c_layouts.specs.Marks.{HasBitfield, HasFileMarks}
use Rattle.btcheck_c.specs.Holds.{IsWrongKind}
use Rattle.btcheck_c.specs.declared.thing.Kind.{Kind}
use Rattle.btcheck_c.specs.declared.thing.Kind.TheVariants as kind

-- how many blocks of file n are marked, and how many it has; or there is no such file
abbrev pub WritesFileCounts : ℕ → ℕ → ℕ → Kind → ℕ → Kind → Type 0
WritesFileCounts n marked blocks (kind.Session S) status k' = (k' ≡ kind.Session S)
    × (((status ≡ 0) × HasFileMarks S n marked blocks)
    ⊎ ((status ≡ 5) × (length S.torrent.files ≤ n)))
WritesFileCounts n marked blocks k status k' = IsWrongKind k status k'

-- the bitfield of the session's pieces (BEP 3, "bitfield")
abbrev pub WritesBitfield : List ℕ → List ℕ → ℕ → Kind → ℕ → Kind → Type 0
WritesBitfield room room' size (kind.Session S) status k' =
    (k' ≡ kind.Session S) × HasBitfield S status room room' size
WritesBitfield room room' size k status k' = IsWrongKind k status k'
