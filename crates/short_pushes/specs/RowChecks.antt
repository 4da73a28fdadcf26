-- What a check of pieces in a row was given, and what it compares (BEP 52, "piece layers").
use Rattle.std.specs.Prelude.{◌≡◌, ℕ, ◌+◌, ◌++◌, List, [], length}
use Rattle.std.specs.Vec.{vec_capacity}
use Rattle.hashtree.specs.Bits.{AreClear, AreMarked}
use Rattle.hashtree.specs.Complete.{complete_count, complete_nodes}
use Rattle.hashtree.specs.PieceCheck as pieces
use Rattle.hashtree.specs.declared.piece_check.PieceCheck.{PieceCheck}
use Rattle.short_pushes.specs.Held.{held}
use Rattle.short_pushes.specs.declared.row_check.RowCheck.{RowCheck}

-- how many bytes the check was given
abbrev pub row_byte_count : RowCheck → ℕ
row_byte_count c = pieces.check_byte_count c.check + length (held c.waiting)

-- how many bytes the pieces have
abbrev pub shape_of_row : RowCheck → ℕ
shape_of_row c = c.shape

-- the layer that is checked
abbrev pub layer_of_row : RowCheck → ℕ
layer_of_row c = c.layer

-- the hashes that the pieces are to have
abbrev pub hashes_of_row : RowCheck → List (List ℕ)
hashes_of_row c = c.hashes.now

-- how many bytes of memory there are for those that wait
abbrev pub room_of_row : RowCheck → ℕ
room_of_row c = vec_capacity c.waiting.room

-- the check was given this content, of which the last bytes wait, and these bits tell which of its
-- pieces are complete and have their hash
pub record IsGivenRow (c : RowCheck) (good : List ℕ) (content : List ℕ) : Type 0 where
  pub length_is : row_byte_count c ≡ length content
  pub taken : List ℕ
  pub content_is : content ≡ taken ++ held c.waiting
  pub fed : pieces.IsFedRow c.check [] taken
  pub marked : AreMarked good c.hashes.now (complete_nodes content c.layer)

-- nothing was given yet to a check of a row of this many bytes against these hashes of this layer,
-- and there is room for what may wait
pub record BeginsPushes (size layer : ℕ) (hashes : List (List ℕ)) (c : RowCheck) : Type 0 where
  pub count : row_byte_count c ≡ 0
  pub room : room_of_row c ≡ 131072
  pub shape_is : shape_of_row c ≡ size
  pub layer_is : layer_of_row c ≡ layer
  pub hashes_are : hashes_of_row c ≡ hashes
  pub given : (good : List ℕ) → AreClear good → IsGivenRow c good []

-- a check of the same row, of which nothing was given yet
abbrev pub BeginsPushesAnew : RowCheck → RowCheck → Type 0
BeginsPushesAnew old new =
    BeginsPushes (shape_of_row old) (layer_of_row old) (hashes_of_row old) new

-- the check was given these further bytes, in the room that there was, and marked the bits
pub record PushesRow (old : RowCheck) (marked : List ℕ) (bytes : List ℕ) (new : RowCheck)
    (marks : List ℕ) : Type 0 where
  pub count : row_byte_count new ≡ row_byte_count old + length bytes
  pub room : room_of_row new ≡ room_of_row old
  pub shape : shape_of_row new ≡ shape_of_row old
  pub layer : layer_of_row new ≡ layer_of_row old
  pub hashes : hashes_of_row new ≡ hashes_of_row old
  pub bits : length marks ≡ length marked
  pub given : (file : List ℕ) → IsGivenRow old marked file → IsGivenRow new marks (file ++ bytes)

-- ---- what waits

-- The check was given this content, and these bits tell which of the pieces that are complete in
-- what it took have their hash. No public clause names this.
pub record IsTakenRow (c : RowCheck) (good : List ℕ) (content : List ℕ) : Type 0 where
  pub length_is : row_byte_count c ≡ length content
  pub taken : List ℕ
  pub content_is : content ≡ taken ++ held c.waiting
  pub fed : pieces.IsFedRow c.check good taken

-- it took these further bytes, or they wait, and it marked the bits
pub record TakesPush (old : RowCheck) (marked : List ℕ) (bytes : List ℕ) (new : RowCheck)
    (marks : List ℕ) : Type 0 where
  pub count : row_byte_count new ≡ row_byte_count old + length bytes
  pub shape : shape_of_row new ≡ shape_of_row old
  pub layer : layer_of_row new ≡ layer_of_row old
  pub hashes : hashes_of_row new ≡ hashes_of_row old
  pub bits : length marks ≡ length marked
  pub content : (file : List ℕ) → IsTakenRow old marked file → IsTakenRow new marks (file ++ bytes)

-- the bytes that wait complete no piece
abbrev pub IsRowSettled : RowCheck → Type 0
IsRowSettled c =
    complete_count c.layer (pieces.check_byte_count c.check)
    ≡ complete_count c.layer (row_byte_count c)

-- what was given, in a check in which no byte waits
pub record IsEndedRow (c : RowCheck) (ended : PieceCheck) : Type 0 where
  pub count : pieces.check_byte_count ended ≡ row_byte_count c
  pub shape : pieces.chosen_shape ended ≡ shape_of_row c
  pub layer : pieces.chosen_layer ended ≡ layer_of_row c
  pub hashes : pieces.given_hashes ended ≡ hashes_of_row c
  pub fed : (marked content : List ℕ) → IsGivenRow c marked content
      → pieces.IsFedRow ended marked content
