-- What reading a source to its end found.
use Rattle.std.specs.Prelude.{◌≡◌, ℕ, ◌^◌, ◌<◌, ◌≤◌, List, [], length}
use Rattle.hashtree.specs.Tree.{root_of}
use Rattle.folders.specs.declared.root.Reading.{Reading}
use Rattle.folders.specs.declared.root.Reading.TheVariants.{Empty, Root, TooLong}

-- the length and the root of a file
pub record IsFileRoot (file : List ℕ) (len : ℕ) (root : List ℕ) : Type 0 where
  pub some : 0 < length file
  pub bound : length file ≤ 2 ^ 46
  pub length_is : len ≡ length file
  pub root_is : root ≡ root_of file

-- this is what is reported of the file
abbrev pub IsReadingOf : List ℕ → Reading → Type 0
IsReadingOf file Empty = file ≡ []
IsReadingOf file (Root len root) = IsFileRoot file len root
IsReadingOf file TooLong = 2 ^ 46 < length file
