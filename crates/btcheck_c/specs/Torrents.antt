-- What the calls on a torrent as a whole write.
use Rattle.std.specs.Prelude.{◌≡◌, ℕ, List, is_some}
use Rattle.c_layouts.specs.Paths.{HasPath}
use Rattle.c_layouts.specs.Statuses.{IsAnswer}
use Rattle.c_layouts.specs.Torrents.{torrent_piece_count}
use Rattle.btcheck_c.specs.Holds.{IsWrongKind}
use Rattle.btcheck_c.specs.declared.thing.Kind.{Kind}
use Rattle.btcheck_c.specs.declared.thing.Kind.TheVariants as kind

-- the piece length in bytes (BEP 52, "piece length")
abbrev pub WritesPieceLength : ℕ → Kind → ℕ → Kind → Type 0
WritesPieceLength len (kind.Session S) status k' =
    (k' ≡ kind.Session S) × ((status ≡ 0) × (len ≡ S.torrent.piece_length))
WritesPieceLength len k status k' = IsWrongKind k status k'

-- how many pieces the files have together
abbrev pub WritesPieces : ℕ → Kind → ℕ → Kind → Type 0
WritesPieces pieces (kind.Session S) status k' =
    (k' ≡ kind.Session S) × ((status ≡ 0) × (pieces ≡ torrent_piece_count S.torrent))
WritesPieces pieces k status k' = IsWrongKind k status k'

-- the torrent's name (BEP 52, "name")
abbrev pub WritesName : List ℕ → List ℕ → ℕ → Kind → ℕ → Kind → Type 0
WritesName room room' len (kind.Session S) status k' =
    (k' ≡ kind.Session S) × HasPath S.torrent.name status room room' len
WritesName room room' len k status k' = IsWrongKind k status k'

-- whether it has a version 1 part too (BEP 52, "upgrade path")
abbrev pub AnswersIfHybrid : Kind → ℕ → Kind → Type 0
AnswersIfHybrid (kind.Session S) status k' =
    (k' ≡ kind.Session S) × IsAnswer (is_some S.torrent.v1) status
AnswersIfHybrid k status k' = IsWrongKind k status k'
