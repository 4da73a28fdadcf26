-- What a draft of a torrent holds, without where it lies in memory, and what is true of it at any
-- time.
use Rattle.std.specs.Prelude.{◌≡◌, ℕ, ◌^◌, ◌<◌, ◌≤◌, Bool, true, nat_lt, if◌then◌else◌, List, [], ◌∷◌, length, map, Some, None, slice_get}
use Rattle.std.specs.Cmp.Lexicographic.{slice_cmp}
use Rattle.std.specs.List.Sorted.{IsStrictlySortedBy}
use Rattle.std.specs.Ordering.{nat_cmp}
use Rattle.std.specs.Str.{IsUtf8}
use Rattle.filetree.specs.Paths.{AreInOrder, IsFilePath}
use Rattle.filetree.specs.declared.files.ListedFile.{ListedFile}
use Rattle.opening.specs.PieceLayers.{leads_to}
use Rattle.opening.specs.Trees.{pieces_in}
use Rattle.pieces.specs.Pieces.{IsPieceLength, pieces_of}

-- a file: its path, its length, the root of its tree if it is not empty, and for a hybrid the SHA-1
-- digests of its own cuts of piece length and that of its last cut filled up with zeros
pub record OutlineFile : Type 0 where
  pub path : List (List ℕ)
  pub length : ℕ
  pub root : List ℕ
  pub cuts : List (List ℕ)
  pub padded : List ℕ

-- the piece layer that was added first with a root
pub record OutlineLayer : Type 0 where
  pub root : List ℕ
  pub hashes : List (List ℕ)

-- files in the order of their paths, layers in the order of their roots
pub record Outline : Type 0 where
  pub name : List ℕ
  pub piece_length : ℕ
  pub hybrid : Bool
  pub files : List OutlineFile
  pub layers : List OutlineLayer

-- the file as the file tree lists it
abbrev pub listed_file : OutlineFile → ListedFile
listed_file f = record {
  path = f.path;
  length = f.length;
  root = if nat_lt 0 f.length then Some f.root else None;
}

-- each list is of this length
abbrev pub AreOfLength : ℕ → List (List ℕ) → Type 0
AreOfLength width [] = Unit {0}
AreOfLength width (h ∷ hs) = (length h ≡ width) × AreOfLength width hs

pub record IsOutlineFile (f : OutlineFile) : Type 0 where
  pub path : IsFilePath f.path
  pub bound : f.length ≤ 2 ^ 46
  pub root_length : 0 < f.length → length f.root ≡ 32
  pub cut_lengths : AreOfLength 20 f.cuts
  pub padded_length : length f.padded ≡ 20

-- the layer is that of a file of this root and length
pub record IsLayerOf (piece_length : ℕ) (e : OutlineLayer) (f : OutlineFile) : Type 0 where
  pub root : e.root ≡ f.root
  pub count : length e.hashes ≡ pieces_of piece_length f.length
  pub hash_lengths : AreOfLength 32 e.hashes
  pub leads : leads_to piece_length (record { root = f.root; length = f.length }) e.hashes ≡ f.root

-- a layer stands in the draft for a file that is longer than a piece
pub record HasLayer (d : Outline) (f : OutlineFile) : Type 0 where
  pub number : ℕ
  pub layer : OutlineLayer
  pub there : slice_get d.layers number ≡ Some layer
  pub is : IsLayerOf d.piece_length layer f

pub record IsOutline (d : Outline) : Type 0 where
  pub name : IsUtf8 d.name
  pub legal : IsPieceLength d.piece_length
  pub files : (n : ℕ) (f : OutlineFile) → slice_get d.files n ≡ Some f
      → IsOutlineFile f
  pub cuts : (n : ℕ) (f : OutlineFile) → slice_get d.files n ≡ Some f → d.hybrid ≡ true
      → 0 < f.length → length f.cuts ≡ pieces_of d.piece_length f.length
  pub in_order : AreInOrder (map (λ (f : OutlineFile). f.path) d.files)
  pub one_length : (m n : ℕ) (f g : OutlineFile) → slice_get d.files m ≡ Some f
      → slice_get d.files n ≡ Some g → 0 < f.length → 0 < g.length → f.root ≡ g.root
      → f.length ≡ g.length
  pub pieces : pieces_in d.piece_length (map listed_file d.files) < 2 ^ 32
  pub layers_ascend :
      IsStrictlySortedBy (slice_cmp nat_cmp) (map (λ (e : OutlineLayer). e.root) d.layers)
  pub layers_there : (n : ℕ) (f : OutlineFile) → slice_get d.files n ≡ Some f
      → d.piece_length < f.length → HasLayer d f
  pub layers_used : (n : ℕ) (e : OutlineLayer) → slice_get d.layers n ≡ Some e
      → (k : ℕ) × (f : OutlineFile) × (slice_get d.files k ≡ Some f)
      × (d.piece_length < f.length) × IsLayerOf d.piece_length e f

-- a draft of no files
abbrev pub empty_outline : List ℕ → ℕ → Bool → Outline
empty_outline name piece_length hybrid = record {
  name = name;
  piece_length = piece_length;
  hybrid = hybrid;
  files = [];
  layers = [];
}
