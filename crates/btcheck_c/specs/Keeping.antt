-- What the calls do that keep what a session knows: leaves as messages and as layers.
use Rattle.std.specs.Prelude.{◌≡◌, ◌⊎◌, ℕ, ◌≤◌, List, length, Result}
use Rattle.node_maps.specs.Digest.{Hash}
use Rattle.partial_tree.specs.declared.refusal.HashRefusal.{HashRefusal}
use Rattle.session.specs.Session.{SessionSeen, IsAnswered}
use Rattle.session.specs.SafeStep.{IsAnswerFrom}
use Rattle.session_exports.specs.declared.next.Export.{Export}
use Rattle.session_exports.specs.Exports.{IsExport, NothingFrom, point_after}
use Rattle.btcheck_c.specs.Taken.{LayerTaken}
use Rattle.c_layouts.specs.Cursors.{cursor_of, point_of}
use Rattle.c_layouts.specs.HashesFrames.{HasFrame}
use Rattle.c_layouts.specs.Statuses.{HasHashesStatus}
use Rattle.c_layouts.specs.declared.cursor_info.CursorInfo.{CursorInfo}
use Rattle.btcheck_c.specs.Holds.{IsWrongKind}
use Rattle.btcheck_c.specs.declared.thing.Kind.{Kind}
use Rattle.btcheck_c.specs.declared.thing.Kind.TheVariants as kind

-- the session takes a whole layer of a tree; status and places are its answer. Or there is no such
-- tree
abbrev pub SessionTakesLayer : ℕ → ℕ → List Hash → ℕ → Kind → ℕ → Kind → Type 0
SessionTakesLayer n layer hashes places (kind.Session S) status k' =
    ((answer : Result ℕ HashRefusal) × HasHashesStatus answer status places
    × ((S' : SessionSeen) × (k' ≡ kind.Session S') × LayerTaken S n layer hashes answer S'))
    ⊎ ((status ≡ 5) × ((length S.torrent.trees ≤ n) × (k' ≡ kind.Session S)))
SessionTakesLayer n layer hashes places k status k' = IsWrongKind k status k'

-- the leaves that come next from the cursor on, and what the session answers to their ask: by the
-- law of answers (`StoresAnswers`) every session of the torrent stores it, unless memory is refused
-- or a collision is named
pub record NextLeaves (S : SessionSeen) (cursor : CursorInfo) (room : List ℕ) (status : ℕ)
    (cursor' : CursorInfo) (room' : List ℕ) (len : ℕ) : Type 0 where
  pub next : Export
  pub is_next : IsExport S (point_of cursor) next
  pub hashes : List Hash
  pub answers : IsAnswerFrom S.torrent S next.ask hashes
  pub few : length hashes ≤ 544
  pub frame : HasFrame next.ask hashes status room room' len
  pub moves : status ≡ 0 → cursor' ≡ cursor_of (point_after next)

-- a message with the leaves that come next is written, or has no room; or no leaf is known from the
-- cursor on; or memory was refused for an answer
abbrev pub ExportWritten : SessionSeen → CursorInfo → List ℕ → ℕ → CursorInfo → List ℕ → ℕ → Type 0
ExportWritten S cursor room status cursor' room' len =
    NextLeaves S cursor room status cursor' room' len
    ⊎ (((status ≡ 6) × NothingFrom S (point_of cursor))
    ⊎ ((status ≡ 2) × ((next : Export) × IsExport S (point_of cursor) next
    × IsAnswered S next.ask)))

-- the session writes a message with leaves that it knows, and stays as it is
abbrev pub Exports : CursorInfo → List ℕ → CursorInfo → List ℕ → ℕ → Kind → ℕ → Kind → Type 0
Exports cursor room cursor' room' len (kind.Session S) status k' =
    (k' ≡ kind.Session S) × ExportWritten S cursor room status cursor' room' len
Exports cursor room cursor' room' len k status k' = IsWrongKind k status k'
