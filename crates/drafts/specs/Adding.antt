-- Adding a file to a draft: the tests in their order, and what stands afterwards.
use Rattle.std.specs.Prelude.{◌≡◌, ◌≢◌, ℕ, ◌&&◌, ◌+◌, ◌^◌, ◌<◌, ◌≤◌, ◌⊎◌, true, nat_lt, if◌then◌else◌, List, [], ◌∷◌, ◌++◌, length, map, take, drop, Some}
use Rattle.std.specs.Prelude.{slice_get, Result, IfErr, OnErr}
use Rattle.std.specs.Cmp.Lexicographic.{slice_cmp}
use Rattle.std.specs.Ordering.{match_ordering, nat_cmp}
use Rattle.drafts.specs.Outline.{AreOfLength, IsLayerOf, Outline, OutlineFile, OutlineLayer, listed_file}
use Rattle.filetree.specs.Paths.{IsFilePath, AreInOrder, IsPrefix}
use Rattle.filetree.specs.Tests.{NoneHolds, PassesUnlessNoMemory, TestRow}
use Rattle.opening.specs.Trees.{pieces_in}
use Rattle.pieces.specs.Pieces.{pieces_of}
use Rattle.pieces.specs.declared.v1_cuts.V1File.{V1File}
use Rattle.filetree.specs.declared.refusal.Refusal.{Refusal}
use Rattle.filetree.specs.declared.refusal.Refusal.TheVariants as refusals

-- neither a file of this length and root nor one of the draft is empty, they have one root and
-- different lengths
pub record ReusesRoot (d : Outline) (n : ℕ) (root : List ℕ) : Type 0 where
  pub number : ℕ
  pub other : OutlineFile
  pub there : slice_get d.files number ≡ Some other
  pub some : 0 < n
  pub other_some : 0 < other.length
  pub same : other.root ≡ root
  pub differ : other.length ≢ n

-- the path is that of a file of the draft, or one of the two is a prefix of the other
pub record Clashes (d : Outline) (path : List (List ℕ)) : Type 0 where
  pub number : ℕ
  pub other : OutlineFile
  pub there : slice_get d.files number ≡ Some other
  pub begins : IsPrefix other.path path ⊎ IsPrefix path other.path

-- how many pieces the files of a draft have in all
abbrev pub pieces_in_all : Outline → ℕ
pieces_in_all d = pieces_in d.piece_length (map listed_file d.files)

-- the tests of a file that is to be added, in their order
abbrev pub add_rows : Outline → OutlineFile → List TestRow
add_rows d f =
    record { holds = IsFilePath f.path → ⊥; answer = refusals.Path }
    ∷ record { holds = 2 ^ 46 < f.length; answer = refusals.Length }
    ∷ record { holds = ReusesRoot d f.length f.root; answer = refusals.RootReused }
    ∷ record {
      holds = 2 ^ 32 ≤ pieces_in_all d + pieces_of d.piece_length f.length;
      answer = refusals.TooManyPieces;
    }
    ∷ record { holds = Clashes d f.path; answer = refusals.PathClash }
    ∷ []

-- ---- what the caller gives

-- a file as it is given: digests of cuts are those of a hybrid's file that is not empty
abbrev pub given_file : Outline → List (List ℕ) → ℕ → List ℕ → V1File → OutlineFile
given_file d path n root v1 = record {
  path = path;
  length = n;
  root = root;
  cuts = if d.hybrid && nat_lt 0 n then v1.cuts.items else [];
  padded = v1.padded;
}

-- a hybrid's file that is not empty has all its cuts
abbrev pub HasAllCuts : Outline → OutlineFile → Type 0
HasAllCuts d f = d.hybrid ≡ true → 0 < f.length → length f.cuts ≡ pieces_of d.piece_length f.length

-- the layer of a file that is longer than a piece is that of its root and length
abbrev pub FitsLayer : Outline → OutlineFile → List (List ℕ) → Type 0
FitsLayer d f layer = d.piece_length < f.length
    → IsLayerOf d.piece_length (record { root = f.root; hashes = layer }) f

-- what is given of a file fits it: the digests of its cuts, and its layer
pub record MayAdd (d : Outline) (f : OutlineFile) (layer : List (List ℕ)) : Type 0 where
  pub cuts : HasAllCuts d f
  pub fits : FitsLayer d f layer

-- the same, and digests have their lengths
pub record IsGiven (d : Outline) (f : OutlineFile) (layer : List (List ℕ)) : Type 0 where
  pub root_length : 0 < f.length → length f.root ≡ 32
  pub cut_lengths : AreOfLength 20 f.cuts
  pub padded_length : length f.padded ≡ 20
  pub may : MayAdd d f layer

-- ---- what stands afterwards

-- the layers with this one at its root's place, or as they are if the root has one
abbrev pub with_layer : List ℕ → List (List ℕ) → List OutlineLayer → List OutlineLayer
with_layer root hashes [] = record { root = root; hashes = hashes } ∷ []
with_layer root hashes (e ∷ es) =
    match_ordering (slice_cmp nat_cmp root e.root)
    (record { root = root; hashes = hashes } ∷ e ∷ es)
    (e ∷ es)
    (e ∷ with_layer root hashes es)

-- e is the draft d with the file f at its place, and with its layer if the file is longer than a
-- piece and its root has no layer yet
pub record IsWith (d e : Outline) (f : OutlineFile) (layer : List (List ℕ)) : Type 0 where
  pub name : e.name ≡ d.name
  pub piece_length : e.piece_length ≡ d.piece_length
  pub hybrid : e.hybrid ≡ d.hybrid
  pub place : ℕ
  pub files : e.files ≡ take place d.files ++ f ∷ drop place d.files
  pub in_order : AreInOrder (map (λ (g : OutlineFile). g.path) e.files)
  pub layers : e.layers
      ≡ (if nat_lt d.piece_length f.length then with_layer f.root layer d.layers else d.layers)

-- what comes of adding the file f with its layer to the draft d, which is e afterwards: f is added,
-- or the first test that holds is answered; it is out of memory only if none holds; a draft that
-- refused the file is as before
pub record Adds (d : Outline) (f : OutlineFile) (layer : List (List ℕ)) (e : Outline)
    (result : Result (Unit {0}) Refusal) : Type 0 where
  pub added : PassesUnlessNoMemory (add_rows d f) (λ _. IsWith d e f layer) result
  pub memory : IfErr result (λ r. r ≡ refusals.NoMemory → NoneHolds (add_rows d f))
  pub unchanged : OnErr result (e ≡ d)
