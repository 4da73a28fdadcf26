-- A draft without where it lies in memory, and what holds of what it keeps. Public clauses do not
-- name these.
use Rattle.std.specs.Prelude.{◌≡◌, ℕ, ◌<◌, Bool, if◌then◌else◌, nat_lt, List, [], ◌∷◌, ◌++◌, map, take, drop, Option, Some, slice_get, vec_len}
use Rattle.std.specs.Cmp.Lexicographic.{slice_cmp}
use Rattle.std.specs.List.Sorted.{IsStrictlySortedBy}
use Rattle.std.specs.Map.{keys_of, lookup}
use Rattle.std.specs.BTreeMap.{is_at}
use Rattle.std.specs.Ordering.{nat_cmp}
use Rattle.std.specs.String.{string_bytes}
use Rattle.std.specs.Vec.{vec_capacity}
use Rattle.opening.specs.Trees.{pieces_in}
use Rattle.drafts.specs.Adding.{with_layer}
use Rattle.drafts.specs.Outline.{IsOutline, Outline, OutlineFile, OutlineLayer, listed_file}
use Rattle.drafts.specs.declared.draft.DraftFile.{DraftFile}
use Rattle.drafts.specs.declared.draft.KeptRoot.{KeptRoot}

abbrev pub Entries : Type 0
Entries = List (List ℕ × KeptRoot)

abbrev pub outline_file : DraftFile → OutlineFile
outline_file f = record {
  path = map string_bytes f.path.items;
  length = f.length;
  root = f.root;
  cuts = f.cuts.items;
  padded = f.padded;
}

-- the layers of the roots whose files are longer than a piece
abbrev pub outline_layers : ℕ → Entries → List OutlineLayer
outline_layers piece_length [] = []
outline_layers piece_length (e ∷ es) = if nat_lt piece_length e.1.length
    then record { root = e.0; hashes = e.1.layer.items } ∷ outline_layers piece_length es
    else outline_layers piece_length es

abbrev pub outline : List ℕ → ℕ → Bool → List DraftFile → Entries → Outline
outline name piece_length hybrid files entries = record {
  name = name;
  piece_length = piece_length;
  hybrid = hybrid;
  files = map outline_file files;
  layers = outline_layers piece_length entries;
}

-- what is kept of a root
abbrev pub kept_at : List ℕ → Entries → Option KeptRoot
kept_at root es = lookup (is_at (slice_cmp nat_cmp root)) es

-- a file with this root stands in the draft
pub record IsUsedRoot (files : List OutlineFile) (root : List ℕ) (kept : KeptRoot) : Type 0 where
  pub number : ℕ
  pub file : OutlineFile
  pub there : slice_get files number ≡ Some file
  pub some : 0 < file.length
  pub root_is : file.root ≡ root
  pub length_is : file.length ≡ kept.length

-- the root of this file is kept, with its length
pub record HasRoot (es : Entries) (f : OutlineFile) : Type 0 where
  pub kept : KeptRoot
  pub there : kept_at f.root es ≡ Some kept
  pub length_is : kept.length ≡ f.length

-- the roots are those of the files that are not empty
pub record AreRootsOf (files : List OutlineFile) (es : Entries) : Type 0 where
  pub ordered : IsStrictlySortedBy (slice_cmp nat_cmp) (keys_of es)
  pub each : (n : ℕ) (f : OutlineFile) → slice_get files n ≡ Some f → 0 < f.length → HasRoot es f
  pub used : (root : List ℕ) (kept : KeptRoot) → kept_at root es ≡ Some kept
      → IsUsedRoot files root kept

-- the root of a file that is put among others is kept, and its layer with it
pub record KeepsRoot (piece_length : ℕ) (files : List OutlineFile) (f : OutlineFile)
    (layer : List (List ℕ)) (old new : Entries) : Type 0 where
  pub layers : outline_layers piece_length new
      ≡ (if nat_lt piece_length f.length
      then with_layer f.root layer (outline_layers piece_length old)
      else outline_layers piece_length old)
  pub roots : (place : ℕ) → AreRootsOf (take place files ++ f ∷ drop place files) new

pub record IsDraftKept (name : List ℕ) (piece_length : ℕ) (hybrid : Bool) (files : List DraftFile)
    (es : Entries) (pieces : ℕ) : Type 0 where
  pub outline_is : IsOutline (outline name piece_length hybrid files es)
  pub roots : AreRootsOf (map outline_file files) es
  pub pieces_are : pieces ≡ pieces_in piece_length (map listed_file (map outline_file files))

-- ---- the room of what is kept

-- the lists of a file have room for what they hold alone
pub record HasOwnRoom (f : DraftFile) : Type 0 where
  pub path : vec_capacity f.path ≡ vec_len f.path
  pub cuts : vec_capacity f.cuts ≡ vec_len f.cuts

-- so have the layers of roots
abbrev pub HaveOwnRooms : Entries → Type 0
HaveOwnRooms [] = Unit {0}
HaveOwnRooms (e ∷ es) = (vec_capacity e.1.layer ≡ vec_len e.1.layer) × HaveOwnRooms es
