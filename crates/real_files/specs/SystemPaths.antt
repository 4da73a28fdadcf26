-- The paths of the file system.
use Rattle.std.specs.Prelude.{ℕ, List, ◌∷◌, ◌++◌, flat_map}

-- the path of what stands below a folder: the folder's path, and each component behind a `/`
abbrev pub system_path_below : List ℕ → List (List ℕ) → List ℕ
system_path_below dir path = dir ++ flat_map (λ part. 47 ∷ part) path
