-- The shape of a file tree, and its components, in the words of the standard (BEP 52, "file tree").
use Rattle.std.specs.Prelude.{◌≡◌, ◌⊎◌, ◌≤◌, ℕ, false, true, List, [], ◌∷◌, length}
use Rattle.benc.specs.Value.{Bencode, Pairs, dict, no_pairs, pair}
use Rattle.filetree.specs.Dictionary.{keys_in}
use Rattle.filetree.specs.FileTree.{IsBadComponent, is_dict, is_nil}

-- a dictionary has this pair
abbrev pub HoldsPair : Pairs → List ℕ → Bencode → Type 0
HoldsPair no_pairs k v = ⊥
HoldsPair (pair l w ps) k v = ((l ≡ k) × (w ≡ v)) ⊎ HoldsPair ps k v

-- the components lead from a directory to a dictionary
abbrev pub LeadsToDirectory : Pairs → List (List ℕ) → Pairs → Type 0
LeadsToDirectory ps [] dir = ps ≡ dir
LeadsToDirectory ps (k ∷ ks) dir =
    (inner : Pairs) × (is_nil k ≡ false) × HoldsPair ps k (dict inner)
    × LeadsToDirectory inner ks dir

-- a dictionary has the zero-length key, with this value
pub record HasZeroLengthKey (dir : Pairs) (file : Bencode) : Type 0 where
  pub key : List ℕ
  pub zero_length : is_nil key ≡ true
  pub there : HoldsPair dir key file

-- the value of a component is no dictionary
pub record HasOddComponent (dir : Pairs) : Type 0 where
  pub component : List ℕ
  pub value : Bencode
  pub some : is_nil component ≡ false
  pub there : HoldsPair dir component value
  pub odd : is_dict value ≡ false

-- a zero-length key has a sibling
pub record HasSibling (dir : Pairs) : Type 0 where
  pub file : Bencode
  pub has : HasZeroLengthKey dir file
  pub several : 2 ≤ length (keys_in dir)

-- the value of a zero-length key is no dictionary
pub record HasOddFile (dir : Pairs) : Type 0 where
  pub file : Bencode
  pub has : HasZeroLengthKey dir file
  pub odd : is_dict file ≡ false

-- somewhere in a file tree one of the three conditions on a dictionary holds
pub record HasFault (tree : Pairs) : Type 0 where
  pub path : List (List ℕ)
  pub dir : Pairs
  pub reached : LeadsToDirectory tree path dir
  pub fault : HasOddComponent dir ⊎ HasSibling dir ⊎ HasOddFile dir

-- a file tree is none: its root has the zero-length key, or one of the other three conditions holds
abbrev pub IsMisshapen : Pairs → Type 0
IsMisshapen tree = ((file : Bencode) × HasZeroLengthKey tree file) ⊎ HasFault tree

-- somewhere in a file tree a component is bad, of a file or of a directory
pub record HasBadComponent (tree : Pairs) : Type 0 where
  pub path : List (List ℕ)
  pub dir : Pairs
  pub reached : LeadsToDirectory tree path dir
  pub component : List ℕ
  pub value : Bencode
  pub some : is_nil component ≡ false
  pub there : HoldsPair dir component value
  pub bad : IsBadComponent component
