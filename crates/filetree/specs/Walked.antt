-- What was found on the walk of the file tree, without where it lies in memory. Public clauses do
-- not name these.
use Rattle.std.specs.Prelude.{◌≡◌, ℕ, false, true, List, [], ◌∷◌, ◌++◌, map, ◌⊎◌, if◌then◌else◌, ◌+◌, ◌<◌, ◌≤◌, length, Vec}
use Rattle.std.specs.declared.alloc.Global.{Global}
use Rattle.benc.specs.Text.{Fits}
use Rattle.benc.specs.Value.{Bencode, Pairs, dict}
use Rattle.benc.specs.View.{view}
use Rattle.filetree.specs.FileTree.{Walk, walks, walks_in, below, is_nil, IsBadComponent, HasBadPath, HasBadPathIn, is_directory, is_node}
use Rattle.filetree.specs.declared.walk.Found.{Found}

abbrev pub walk_of : Found → Walk
walk_of f = record { path = f.path; file = view f.file.now }

-- the key of a pair is a bad component, or one behind it is
abbrev pub HasBadPathAt : List ℕ × Bencode → Type 0
HasBadPathAt p = (is_nil p.0 ≡ false) × (IsBadComponent p.0 ⊎ HasBadPathIn p.1)

-- no component of a directory is bad
pub record HasGoodPaths (ps : Pairs) : Type 0 where
  pub good : HasBadPath ps → ⊥

-- the same of a pair
pub record HasGoodPathAt (p : List ℕ × Bencode) : Type 0 where
  pub good : HasBadPathAt p → ⊥

-- these are the pairs of a folder at this path, in which no component is bad, in a spelled value in
-- which at most 128 lists and dictionaries are open at once
pub record IsFolderAt (path : List (List ℕ)) (ps : Pairs) : Type 0 where
  pub room : ℕ
  pub deep : length path + room ≤ 128
  pub fits : Fits room (dict ps)
  pub shape : is_directory ps ≡ true
  pub good : HasGoodPaths ps

-- this pair stands in such a folder
pub record IsNodeBelow (path : List (List ℕ)) (p : List ℕ × Bencode) : Type 0 where
  pub room : ℕ
  pub deep : length path + room < 128
  pub fits : Fits room p.1
  pub named : is_nil p.0 ≡ false
  pub shape : is_node p.1 ≡ true
  pub good : HasGoodPathAt p

-- a walk after the components that lead to a directory
abbrev pub walk_behind : List (List ℕ) → Walk → Walk
walk_behind path w = record { path = path ++ w.path; file = w.file }

-- the walks were added to those before
abbrev pub AddsBehind : List (List ℕ) → List Walk → List Walk → List Walk → Type 0
AddsBehind path ws old new = new ≡ old ++ map (walk_behind path) ws

-- the walks of a directory were added to the files found before
abbrev pub AddsWalks : Pairs → List (List ℕ) → Vec Found Global → Vec Found Global → Type 0
AddsWalks ps path old new =
    AddsBehind path (walks ps) (map walk_of old.items) (map walk_of new.items)

-- the walks of one pair
abbrev pub walks_at : List ℕ × Bencode → List Walk
walks_at p = if is_nil p.0 then record { path = []; file = p.1 }
    ∷ [] else map (below p.0) (walks_in p.1)

-- the walks of one pair were added to the files found before
abbrev pub AddsWalksAt : List ℕ × Bencode → List (List ℕ) → Vec Found Global → Vec Found Global
    → Type 0
AddsWalksAt p path old new =
    AddsBehind path (walks_at p) (map walk_of old.items) (map walk_of new.items)

-- some pairs of a directory were walked, and the rest is left
pub record IsOnWay (path : List (List ℕ)) (all rest : Pairs) (old new : List Walk) : Type 0 where
  pub adds : old ++ map (walk_behind path) (walks all) ≡ new ++ map (walk_behind path) (walks rest)

-- in the rest of a directory some component is bad exactly if one is in all of it
pub record IsAsBad (all rest : Pairs) : Type 0 where
  pub left : HasBadPath all → HasBadPath rest
  pub whole : HasBadPath rest → HasBadPath all
