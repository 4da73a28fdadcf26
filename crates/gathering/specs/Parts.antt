-- What a part says of a folder's files.
use Rattle.std.specs.Prelude.{◌≡◌, ℕ, ◌-◌, Bool, true, List, [], ◌∷◌, ◌++◌, length, take, drop, Some}
pub use Rattle.folders.specs.Shelf.{KnownPaths}
use Rattle.gathering.specs.PartRows.{row_text}
use Rattle.part_texts.specs.Divisions.{bytes_of, capped, hashed, offset_of, span_of, total_of}
use Rattle.part_texts.specs.Listings.{Inventory, Listed}
use Rattle.part_texts.specs.Texts.{head_text, listing_text}
use Rattle.part_texts.specs.declared.division.Span.{Span}

-- these are the bytes of the pieces that a part has of this file, as far as its content is known;
-- and the file is as long as it is listed, if its end is the part's
pub record IsRow (under : KnownPaths) (piece_length : ℕ) (f : Listed) (s : Span) (row : List ℕ)
    : Type 0 where
  pub size : length row ≡ bytes_of piece_length f.bytes s
  pub agrees : (content : List ℕ) → under f.path ≡ Some (Some content)
      → row ≡ take (length row) (drop (offset_of piece_length s) content)
  pub ended : s.ends ≡ true → (content : List ℕ) → under f.path ≡ Some (Some content)
      → length content - offset_of piece_length s ≡ length row

-- the rows of all files, with some bytes before the first
abbrev pub AreRows : KnownPaths → (piece_length total parts part before : ℕ) → List Listed
    → List (List ℕ) → Type 0
AreRows under piece_length total parts part before [] [] = Unit {0}
AreRows under piece_length total parts part before [] (row ∷ rows) = ⊥
AreRows under piece_length total parts part before (f ∷ fs) [] = ⊥
AreRows under piece_length total parts part before (f ∷ fs) (row ∷ rows) =
    IsRow under piece_length f (span_of piece_length total parts before f.bytes part) row
    × AreRows under piece_length total parts part (capped before (hashed f.bytes)) fs rows

-- what is written of the rows of all files
abbrev pub rows_text : ℕ → Bool → List Listed → List (List ℕ) → List ℕ
rows_text piece_length hybrid [] rows = []
rows_text piece_length hybrid (f ∷ fs) [] = []
rows_text piece_length hybrid (f ∷ fs) (row ∷ rows) =
    row_text piece_length hybrid f.bytes row ++ rows_text piece_length hybrid fs rows

-- this is the text of the part, counted from 0, of this many, of a folder with this listing
pub record IsPartText (under : KnownPaths) (l : Inventory) (part parts : ℕ) (text : List ℕ)
    : Type 0 where
  pub rows : List (List ℕ)
  pub are : AreRows under l.piece_length (total_of l.files) parts part 0 l.files rows
  pub text_is : text ≡ head_text part parts (listing_text l)
      ++ rows_text l.piece_length l.hybrid l.files rows
