-- The runs of bad pieces of a file, and their lines.
use Rattle.std.specs.Prelude.{◌≡◌, ℕ, ◌+◌, ◌-◌, ◌*◌, ◌<◌, ◌≤◌, min, List, map, slice_get}
use Rattle.std.specs.Prelude.{Some, Result, MatchResult}
use Rattle.benc.specs.Device.{Broke, Sent, SinkSeen}
use Rattle.hashtree.specs.Bits.{bit_of}
use Rattle.lines.specs.Rows.{Row, Spelling, spell}
use Rattle.lines.specs.Table.{bad_pieces_row}
use Rattle.opening.specs.Description.{Description, FileEntry}
use Rattle.parts.specs.Parts.{Holds, piece_count}
use Rattle.parts.specs.RowBits.{HasGoodPiece}
use Rattle.parts.specs.declared.places.Places.{Places}

-- ---- runs

-- pieces of a file in a row, the first and the last by their numbers within the file
pub record Run : Type 0 where
  pub first : ℕ
  pub last : ℕ

-- a maximal run of bad pieces, of this many pieces
pub record IsBadRun (count : ℕ) (IsGood : ℕ → Type 0) (r : Run) : Type 0 where
  pub order : r.first ≤ r.last
  pub inside : r.last < count
  pub bad : (k : ℕ) → r.first ≤ k → k ≤ r.last → IsGood k → ⊥
  pub good_before : (k : ℕ) → k + 1 ≡ r.first → IsGood k
  pub good_after : r.last + 1 < count → IsGood (r.last + 1)

-- the piece is in one of these runs
abbrev pub IsInOne : List Run → ℕ → Type 0
IsInOne runs k =
    (i : ℕ) × (r : Run) × (slice_get runs i ≡ Some r) × (r.first ≤ k) × (k ≤ r.last)

-- these are, in ascending order, the maximal runs of bad pieces that begin before piece `to`
pub record AreBadRuns (count to : ℕ) (IsGood : ℕ → Type 0) (runs : List Run) : Type 0 where
  pub each : (i : ℕ) (r : Run) → slice_get runs i ≡ Some r
      → IsBadRun count IsGood r × (r.first < to)
  pub ascend : (i j : ℕ) (a b : Run) → i < j → slice_get runs i ≡ Some a
      → slice_get runs j ≡ Some b → a.last < b.first
  pub all : (k : ℕ) → k < to → (IsGood k → ⊥) → IsInOne runs k

-- ---- the pieces of a file

-- these are all runs of bad pieces of a file that has these bytes
abbrev pub AreRunsOf : Description → FileEntry → List ℕ → List Run → Type 0
AreRunsOf t f bytes runs =
    AreBadRuns (piece_count t f) (piece_count t f) (HasGoodPiece t f bytes) runs

-- these are its first ones, those that begin before some piece
abbrev pub AreFirstRunsOf : Description → FileEntry → List ℕ → List Run → Type 0
AreFirstRunsOf t f bytes runs =
    (to : ℕ) × (to ≤ piece_count t f)
    × AreBadRuns (piece_count t f) to (HasGoodPiece t f bytes) runs

-- of a file that has these bytes the piece is good, if it is among these places
abbrev pub IsGoodIfIn : Description → Places → FileEntry → List ℕ → ℕ → Type 0
IsGoodIfIn t r f bytes k = Holds r (f.first_piece + k) → HasGoodPiece t f bytes k

-- these are all runs of bad pieces among these places; a piece that is not among them ends a run
abbrev pub AreRunsIn : Description → Places → FileEntry → List ℕ → List Run → Type 0
AreRunsIn t r f bytes runs =
    AreBadRuns (piece_count t f) (piece_count t f) (IsGoodIfIn t r f bytes) runs

-- these are the first ones of those
abbrev pub AreFirstRunsIn : Description → Places → FileEntry → List ℕ → List Run → Type 0
AreFirstRunsIn t r f bytes runs =
    (to : ℕ) × (to ≤ piece_count t f)
    × AreBadRuns (piece_count t f) to (IsGoodIfIn t r f bytes) runs

-- the bit of a piece is set, if it is one of these pieces, from one number up to another, whose
-- bits these are; that of the first one has this number
abbrev pub IsSetIfIn : ℕ → ℕ → ℕ → List ℕ → ℕ → Type 0
IsSetIfIn first from to bits k = from ≤ k → k < to → bit_of bits (k - from + first) ≡ 1

-- of the pieces from one up to another these are the runs whose bits are not set, those that begin
-- before some piece
abbrev pub AreClearRuns : Description → FileEntry → ℕ → ℕ → List ℕ → ℕ → List Run → Type 0
AreClearRuns t f from to bits end runs =
    AreBadRuns (piece_count t f) end (IsSetIfIn 0 from to bits) runs

-- ---- the lines

-- the line of a run: the torrent's numbers of its first and last piece, the offsets in the file of
-- its first and last byte, both included, and the file's path
abbrev pub run_row : Description → FileEntry → Run → Row
run_row t f r =
    bad_pieces_row (f.first_piece + r.first) (f.first_piece + r.last) (t.piece_length * r.first)
    (min (t.piece_length * (r.last + 1)) f.length - 1) f.path

-- the lines of several
abbrev pub runs_rows : Description → FileEntry → List Run → List Row
runs_rows t f runs = map (run_row t f) runs

-- the lines of some of the first runs of pieces that are not good went out so, spelled so
abbrev pub WentFirst : Spelling → Description → FileEntry → (ℕ → Type 0) → (List ℕ → Type 0)
    → Type 0
WentFirst spelled t f IsGood Went =
    (runs : List Run) × (end : ℕ) × (end ≤ piece_count t f)
    × AreBadRuns (piece_count t f) end IsGood runs × Went (spell spelled (runs_rows t f runs))

-- the lines of all of them went out, or those of the first ones broke off
abbrev pub WritesRuns : {E : Type 0} → Spelling → Description → FileEntry → (ℕ → Type 0)
    → SinkSeen → SinkSeen → Result (Unit {0}) E → Type 0
WritesRuns spelled t f IsGood out out' r = MatchResult r
    (λ _. (runs : List Run) × AreBadRuns (piece_count t f) (piece_count t f) IsGood runs
    × Sent out out' (spell spelled (runs_rows t f runs)))
    (λ _. WentFirst spelled t f IsGood (Broke out out'))
