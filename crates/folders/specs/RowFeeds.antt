-- A row of pieces that is read and judged.
use Rattle.std.specs.Prelude.{◌≡◌, ℕ, ◌+◌, ◌<◌, ◌≤◌, [], List, Option, Some, None, length}
use Rattle.std.specs.Vec.{vec_capacity}
use Rattle.std.specs.Io.KnownBytes.{IsAtEnd}
use Rattle.benc.specs.Device.{SourceSeen}
use Rattle.wire.specs.Reading.{Gave}
use Rattle.hashtree.specs.Tree.{root_of}
use Rattle.hashtree.specs.Bits.{AreClear}
use Rattle.hashtree.specs.Judging.{IsJudgedRow}
use Rattle.hashtree.specs.PieceCheck.{FeedsRow, IsFedRow, check_byte_count, chosen_layer, chosen_shape, given_hashes}
use Rattle.pieces.specs.Marks.{AreMarkedWhole}
use Rattle.folders.specs.CutFeeds.{AreCutsJudged, HasCutRoom, TakesCuts}
use Rattle.folders.specs.declared.row_feed.RowFeed.{RowFeed}
use Rattle.folders.specs.declared.row_feed.RowFound.{RowFound}

-- the check and the bitmap were given these bytes, and the version 1 pieces too
pub record FeedsBits (old : RowFeed) (bytes : List ℕ) (new : RowFeed) : Type 0 where
  pub row : FeedsRow old.check old.bits.items bytes new.check new.bits.items
  pub cuts : TakesCuts old.cuts.feed bytes new.cuts.feed
  pub room : vec_capacity new.bits ≡ vec_capacity old.bits

-- the row is not full before this many bytes more
abbrev pub HasRowRoom : RowFeed → ℕ → Type 0
HasRowRoom f n = (check_byte_count f.check + n ≤ chosen_shape f.check) × HasCutRoom f.cuts.feed n

-- nothing was given yet, and no bit is set
pub record IsFreshFeed (f : RowFeed) : Type 0 where
  pub count : check_byte_count f.check ≡ 0
  pub room : HasCutRoom f.cuts.feed (chosen_shape f.check)
  pub clear : AreClear f.bits.items
  pub fed : (good : List ℕ) → AreClear good → IsFedRow f.check good []

-- The row was read whole, and judged; or the source had fewer bytes, and the bits tell which pieces
-- of them are whole and good.
abbrev pub JudgesRow : RowFeed → SourceSeen → SourceSeen → List ℕ → Option RowFound → Type 0
JudgesRow f old new good (Some found) = (own : List ℕ) × (length own ≡ chosen_shape f.check)
    × Gave old new own × (found.root ≡ root_of own)
    × IsJudgedRow (chosen_layer f.check) (given_hashes f.check) own good found.other
    × AreCutsJudged f.cuts.feed own found.bad_cut
JudgesRow f old new good None = (own : List ℕ) × (length own < chosen_shape f.check)
    × Gave old new own × IsAtEnd new.left
    × AreMarkedWhole good (given_hashes f.check) (chosen_layer f.check) own
