-- What the calls on the places of pieces and of bytes write.
use Rattle.std.specs.Prelude.{◌≡◌, ◌⊎◌, ℕ, ◌≤◌, length}
use Rattle.c_layouts.specs.Places.{HasByte, HasFilePieces, IsPieceInfo, IsRangeInfo}
use Rattle.c_layouts.specs.Torrents.{torrent_piece_count}
use Rattle.c_layouts.specs.declared.piece_info.PieceInfo.{PieceInfo}
use Rattle.c_layouts.specs.declared.range_info.RangeInfo.{RangeInfo}
use Rattle.btcheck_c.specs.Holds.{IsWrongKind}
use Rattle.btcheck_c.specs.declared.thing.Kind.{Kind}
use Rattle.btcheck_c.specs.declared.thing.Kind.TheVariants as kind

-- a piece is written with its place in its file, or there is none
abbrev pub WritesPiece : ℕ → PieceInfo → Kind → ℕ → Kind → Type 0
WritesPiece piece out (kind.Session S) status k' = (k' ≡ kind.Session S)
    × (((status ≡ 0) × IsPieceInfo S.torrent piece out)
    ⊎ ((status ≡ 5) × (torrent_piece_count S.torrent ≤ piece)))
WritesPiece piece out k status k' = IsWrongKind k status k'

-- the pieces of file n, or there is no such file
abbrev pub WritesFilePieces : ℕ → ℕ → ℕ → Kind → ℕ → Kind → Type 0
WritesFilePieces n first count (kind.Session S) status k' = (k' ≡ kind.Session S)
    × (((status ≡ 0) × HasFilePieces S.torrent n first count)
    ⊎ ((status ≡ 5) × (length S.torrent.files ≤ n)))
WritesFilePieces n first count k status k' = IsWrongKind k status k'

-- where bytes of file n lie in pieces, or it has no byte there
abbrev pub WritesRange : ℕ → ℕ → ℕ → RangeInfo → Kind → ℕ → Kind → Type 0
WritesRange n offset wanted out (kind.Session S) status k' = (k' ≡ kind.Session S)
    × (((status ≡ 0) × IsRangeInfo S.torrent n offset wanted out)
    ⊎ ((status ≡ 5) × ¬ HasByte S.torrent n offset))
WritesRange n offset wanted out k status k' = IsWrongKind k status k'
