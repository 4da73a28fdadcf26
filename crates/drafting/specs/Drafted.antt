-- What becomes of a draft to which files are added as they come (BEP 52, "metainfo files").
use Rattle.std.specs.Prelude.{◌≡◌, ◌≢◌, ◌⊎◌, ◌==◌, ℕ, List, [], ◌∷◌, Result, Ok, Err}
use Rattle.std.specs.List.{slice_split}
use Rattle.std.specs.Str.{IsUtf8}
use Rattle.drafts.specs.Outline.{Outline}
use Rattle.filetree.specs.FileTree.{slash}
use Rattle.filetree.specs.Tests.{TestRow}
use Rattle.filetree.specs.declared.refusal.Key.TheVariants as keys
use Rattle.filetree.specs.declared.refusal.Refusal.{Refusal}
use Rattle.filetree.specs.declared.refusal.Refusal.TheVariants as refusals
use Rattle.gathering.specs.Gathered.{DraftAdds, DraftRefuses, DraftTakes}
use Rattle.pieces.specs.Pieces.{IsPieceLength}
use Rattle.drafting.specs.Coming.{FileTakesMemory, HasFileRefused, IsGivenFile, IsNewFile, IsSameKind, is_for_hybrids, piece_length_of}
use Rattle.drafting.specs.declared.coming_file.ComingFile.{ComingFile}

-- the tests of a new draft, in their order
abbrev pub new_rows : List ℕ → ℕ → List TestRow
new_rows name piece_length =
    record { holds = IsUtf8 name → ⊥; answer = refusals.WrongType keys.Name }
    ∷ record { holds = IsPieceLength piece_length → ⊥; answer = refusals.PieceLength }
    ∷ []

-- the file is for drafts of the piece length and the kind of this one
abbrev pub IsFileForDraft : Outline → ComingFile → Type 0
IsFileForDraft d f = (piece_length_of f ≡ d.piece_length) × (is_for_hybrids f ≡ d.hybrid)

-- the components of a path: what stands between its slashes
abbrev pub components_of : List ℕ → List (List ℕ)
components_of path = slice_split (λ b. b == slash) path

-- ---- adding

-- memory was not refused to the file; the draft d takes the content that it was given, and is e
-- with it; the file begins anew
pub record IsAdded (d : Outline) (f : ComingFile) (path : List (List ℕ)) (e : Outline)
    (g : ComingFile) : Type 0 where
  pub works : HasFileRefused f → ⊥
  pub added : (content : List ℕ) → IsGivenFile f content → DraftAdds d path content e
  pub anew : IsNewFile d.piece_length d.hybrid g

-- memory was not refused to the file; the draft d refuses the content that it was given, and it has
-- that content still
pub record DraftDeclines (d : Outline) (f : ComingFile) (path : List (List ℕ)) (g : ComingFile)
    (r : Refusal) : Type 0 where
  pub works : HasFileRefused f → ⊥
  pub declined : (content : List ℕ) → IsGivenFile f content
      → DraftRefuses d path content r × IsGivenFile g content

-- memory was refused to the draft d alone, which takes the content that the file was given; the
-- file has that content still
pub record DraftLacksMemory (d : Outline) (f : ComingFile) (path : List (List ℕ)) (g : ComingFile)
    : Type 0 where
  pub works : HasFileRefused f → ⊥
  pub takes : (content : List ℕ) → IsGivenFile f content
      → DraftTakes d path content × IsGivenFile g content

-- memory was refused to the file, now or before, and it is lost; or to the draft d alone
abbrev pub LacksMemoryFor : Outline → ComingFile → List (List ℕ) → ComingFile → Type 0
LacksMemoryFor d f path g =
    (HasFileRefused g × FileTakesMemory f []) ⊎ DraftLacksMemory d f path g

-- what comes of adding the file f under the path of these components to the draft d: draft and file
-- are e and g afterwards
abbrev pub AddsParts : Outline → ComingFile → List (List ℕ) → Outline → ComingFile
    → Result (Unit {0}) Refusal → Type 0
AddsParts d f path e g (Ok u) = IsAdded d f path e g
AddsParts d f path e g (Err r) = (e ≡ d) × (IsSameKind f g
    × ((r ≢ refusals.NoMemory → DraftDeclines d f path g r)
    × (r ≡ refusals.NoMemory → LacksMemoryFor d f path g)))

-- the path is no text, or memory for its components was refused; the file is as before
abbrev pub HasNoParts : ComingFile → List ℕ → ComingFile → Refusal → Type 0
HasNoParts f path g r = (g ≡ f)
    × (((r ≡ refusals.Path) × (IsUtf8 path → ⊥)) ⊎ ((r ≡ refusals.NoMemory) × IsUtf8 path))

-- the same of a path as one text
abbrev pub AddsFile : Outline → ComingFile → List ℕ → Outline → ComingFile
    → Result (Unit {0}) Refusal → Type 0
AddsFile d f path e g (Ok u) = IsUtf8 path × AddsParts d f (components_of path) e g (Ok u)
AddsFile d f path e g (Err r) = ((e ≡ d) × HasNoParts f path g r)
    ⊎ (IsUtf8 path × AddsParts d f (components_of path) e g (Err r))
