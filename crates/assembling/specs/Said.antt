-- What the texts of parts say of files. Public clauses do not name these.
use Rattle.std.specs.Prelude.{◌≡◌, ℕ, Bool, List, [], ◌++◌, length, slice_get, Some, if◌then◌else◌}
use Rattle.drafts.specs.Outline.{AreOfLength}
use Rattle.gathering.specs.Parts.{AreRows, KnownPaths, rows_text}
use Rattle.gathering.specs.PartRows.{joined_hashes}
use Rattle.part_texts.specs.Listings.{Listed}

-- what is said of a row of pieces: the nodes over them, the digests of a hybrid's cuts, and that of
-- the last one filled up with zeros
pub record RowSaid : Type 0 where
  pub nodes : List (List ℕ)
  pub cuts : List (List ℕ)
  pub padded : List ℕ

-- there is one of each for each piece, and they have their widths
pub record FitsCount (count : ℕ) (row : RowSaid) : Type 0 where
  pub nodes : length row.nodes ≡ count
  pub node_widths : AreOfLength 32 row.nodes
  pub cuts : length row.cuts ≡ count
  pub cut_widths : AreOfLength 20 row.cuts
  pub padded_width : length row.padded ≡ 20

-- as it is written
abbrev pub said_text : Bool → RowSaid → List ℕ
said_text hybrid row =
    joined_hashes row.nodes ++ (if hybrid then joined_hashes row.cuts ++ row.padded else [])

-- this is what a part says of the files from one on, before which there are this many bytes
pub record Says (under : KnownPaths) (piece_length : ℕ) (hybrid : Bool)
    (total parts part before : ℕ) (files : List Listed) (text : List ℕ) : Type 0 where
  pub rows : List (List ℕ)
  pub are : AreRows under piece_length total parts part before files rows
  pub text_is : text ≡ rows_text piece_length hybrid files rows

-- each part says so of the files from one on
abbrev pub EachSays : KnownPaths → (piece_length : ℕ) → Bool → (total parts before : ℕ)
    → List Listed → List (List ℕ) → Type 0
EachSays under piece_length hybrid total parts before files texts =
    (part : ℕ) (text : List ℕ) → slice_get texts part ≡ Some text
    → Says under piece_length hybrid total parts part before files text
