-- How many bytes a part says of the pieces that it has (BEP 52, "piece layers", "pieces root";
-- BEP 3, "pieces").
use Rattle.std.specs.Prelude.{◌≡◌, ℕ, ◌+◌, ◌-◌, ◌*◌, ◌==◌, Bool, List, [], ◌∷◌, length, slice_get, Some, if◌then◌else◌}
use Rattle.part_texts.specs.Divisions.{capped, first_piece, hashed, total_of}
use Rattle.part_texts.specs.Listings.{Inventory, Listed}
use Rattle.part_texts.specs.Texts.{listing_text}
use Rattle.assembling.specs.Fronts.{Front, IsFront}

-- how many bytes are said of this many pieces of a file: none of none; else 32 of each node, and in
-- a hybrid 20 of each digest and of that of the last cut filled up with zeros
abbrev pub row_size : Bool → ℕ → ℕ
row_size hybrid count =
    if count == 0 then 0 else (if hybrid then 52 * count + 20 else 32 * count)

-- how many bytes a part says of the files from one on, before which there are this many bytes
abbrev pub rows_size : (piece_length : ℕ) → Bool → (total parts part before : ℕ) → List Listed → ℕ
rows_size piece_length hybrid total parts part before [] = 0
rows_size piece_length hybrid total parts part before (f ∷ fs) =
    row_size hybrid (first_piece piece_length total parts before f.bytes (part + 1)
    - first_piece piece_length total parts before f.bytes part)
    + rows_size piece_length hybrid total parts part (capped before (hashed f.bytes)) fs

-- the text begins as that of a part of what was listed so, and behind its front stand as many bytes
-- as this part says
pub record IsOfSize (l : Inventory) (text : List ℕ) : Type 0 where
  pub front : Front
  pub begins : IsFront text front
  pub of : front.listing ≡ listing_text l
  pub size : length front.rows ≡ rows_size l.piece_length l.hybrid (total_of l.files) front.parts
      front.part 0 l.files

-- each text is so
abbrev pub AreOfSize : Inventory → List (List ℕ) → Type 0
AreOfSize l texts = (i : ℕ) (text : List ℕ) → slice_get texts i ≡ Some text → IsOfSize l text
