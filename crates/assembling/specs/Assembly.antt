-- What comes of the texts of parts that each say what is true of the same contents (BEP 52, "pieces
-- root", "piece layers"; BEP 3, "pieces"; BEP 47, "Padding Files").
use Rattle.std.specs.Prelude.{◌≡◌, ◌⊎◌, ℕ, ◌^◌, ◌<◌, ◌≤◌, List, [], ◌∷◌, length, map, take, slice_get, Some, Result, Ok, Err, ⊤}
use Rattle.drafts.specs.Outline.{Outline, empty_outline}
use Rattle.filetree.specs.declared.refusal.Refusal.{Refusal}
use Rattle.filetree.specs.declared.refusal.Refusal.TheVariants as refusals
use Rattle.folders.specs.Shelf.{path_bytes}
use Rattle.gathering.specs.Gathered.{DraftRefuses, Gathered}
use Rattle.gathering.specs.Parts.{IsPartText, KnownPaths}
use Rattle.part_texts.specs.Listings.{Inventory, Listed}
use Rattle.part_texts.specs.Texts.{listing_text}
use Rattle.pieces.specs.Pieces.{IsPieceLength}
use Rattle.assembling.specs.declared.fault.AssembleFault.{AssembleFault}
use Rattle.assembling.specs.declared.fault.AssembleFault.TheVariants as fault

-- the text is that of a part of a folder with this listing, and true of what is known of its files
pub record IsTruePartText (under : KnownPaths) (l : Inventory) (text : List ℕ) : Type 0 where
  pub part : ℕ
  pub parts : ℕ
  pub there : part < parts
  pub small : parts < 2 ^ 64
  pub short : length (listing_text l) < 2 ^ 64
  pub is : IsPartText under l part parts text

-- each text is so
abbrev pub AreTrueParts : KnownPaths → Inventory → List (List ℕ) → Type 0
AreTrueParts under l texts =
    (i : ℕ) (text : List ℕ) → slice_get texts i ≡ Some text → IsTruePartText under l text

-- these are the contents of the listed files, in turn
abbrev pub AreHeld : KnownPaths → List Listed → List (List ℕ) → Type 0
AreHeld under [] [] = Unit {0}
AreHeld under [] (c ∷ cs) = ⊥
AreHeld under (f ∷ fs) [] = ⊥
AreHeld under (f ∷ fs) (c ∷ cs) = (under f.path ≡ Some (Some c)) × AreHeld under fs cs

-- the paths of listed files, in turn
abbrev pub paths_of : List Listed → List (List (List ℕ))
paths_of files = map (λ (f : Listed). f.path) files

-- the draft of no files that is asked for
abbrev pub listed_draft : Inventory → Outline
listed_draft l = empty_outline l.name l.piece_length l.hybrid

-- a file that is listed above 2^46 bytes is refused for its length, and any other as the draft
-- refuses its content
abbrev pub RefusesListed : Outline → Listed → List ℕ → Refusal → Type 0
RefusesListed d f content r =
    ((2 ^ 46 < f.bytes) × (r ≡ refusals.Length))
    ⊎ ((f.bytes ≤ 2 ^ 46) × DraftRefuses d f.path content r)

-- the files before that of this path were gathered, and it was refused
pub record RefusesFile (l : Inventory) (contents : List (List ℕ)) (path : List (List ℕ))
    (r : Refusal) : Type 0 where
  pub number : ℕ
  pub file : Listed
  pub content : List ℕ
  pub there : slice_get l.files number ≡ Some file
  pub held : slice_get contents number ≡ Some content
  pub path_is : path ≡ file.path
  pub draft : Outline
  pub before : Gathered (listed_draft l) (take number (paths_of l.files)) (take number contents)
      draft
  pub why : RefusesListed draft file content r

-- there is no draft of this piece length
pub record RefusesPieces (l : Inventory) (path : List (List ℕ)) (r : Refusal) : Type 0 where
  pub illegal : IsPieceLength l.piece_length → ⊥
  pub answer : r ≡ refusals.PieceLength
  pub no_path : path ≡ []

-- What comes of texts that are true of these contents: the draft that is gathered of them, file by
-- file; or the refusal of the first file that such a draft refuses.
abbrev pub Assembles : Inventory → List (List ℕ) → Result Outline AssembleFault → Type 0
Assembles l contents (Ok d) = Gathered (listed_draft l) (paths_of l.files) contents d
Assembles l contents (Err (fault.Refused r path)) =
    RefusesPieces l (path_bytes path) r ⊎ RefusesFile l contents (path_bytes path) r
Assembles l contents (Err e) = ⊤
