-- What is taken of all parts for one file. Public clauses do not name these.
use Rattle.std.specs.Prelude.{◌≡◌, ℕ, ◌^◌, ◌<◌, ◌≤◌, Bool, true, List, [], ◌∷◌, length, Some}
use Rattle.gathering.specs.Gathered.{piece_hashes}
use Rattle.hashtree.specs.Tree.{root_of}
use Rattle.gathering.specs.Parts.{KnownPaths}
use Rattle.part_texts.specs.Divisions.{capped, hashed}
use Rattle.part_texts.specs.Listings.{Listed}
use Rattle.pieces.specs.FileCuts.{IsV1File}
use Rattle.assembling.specs.Said.{EachSays}
use Rattle.assembling.specs.declared.rows.FileRows.{FileRows}

-- there are this many nodes, and in a hybrid as many digests of cuts
pub record HasEach (hybrid : Bool) (count : ℕ) (rows : FileRows) : Type 0 where
  pub nodes : length rows.nodes.items ≡ count
  pub cuts : hybrid ≡ true → length rows.v1.cuts.items ≡ count

-- these are the nodes over the pieces of this content, or its root if it is no longer than a piece,
-- and in a hybrid the digests of its cuts
pub record IsOfContent (piece_length : ℕ) (hybrid : Bool) (content : List ℕ) (rows : FileRows)
    : Type 0 where
  pub many : piece_length < length content → rows.nodes.items ≡ piece_hashes piece_length content
  pub one : 0 < length content → length content ≤ piece_length
      → rows.nodes.items ≡ root_of content ∷ []
  pub v1 : hybrid ≡ true → 0 < length content → IsV1File piece_length content rows.v1

-- each part says what is true of this file and of those behind it, and this is its content
pub record IsHeld (under : KnownPaths) (piece_length : ℕ) (hybrid : Bool) (total before : ℕ)
    (f : Listed) (fs : List Listed) (content : List ℕ) (texts : List (List ℕ)) : Type 0 where
  pub says : EachSays under piece_length hybrid total (length texts) before (f ∷ fs) texts
  pub known : under f.path ≡ Some (Some content)
  pub short : f.bytes ≤ 2 ^ 46

-- what was taken is the content's, and each part says what is true of the files behind it
pub record IsContentTaken (under : KnownPaths) (piece_length : ℕ) (hybrid : Bool) (total before : ℕ)
    (f : Listed) (fs : List Listed) (content : List ℕ) (rows : FileRows) (texts : List (List ℕ))
    : Type 0 where
  pub is : IsOfContent piece_length hybrid content rows
  pub size : length content ≡ f.bytes
  pub later : EachSays under piece_length hybrid total (length texts)
      (capped before (hashed f.bytes)) fs texts
