-- The tests of files one by one. Public clauses do not name these.
use Rattle.std.specs.Prelude.{Bool, List, is_none}
use Rattle.std.specs.List.{list_any}
use Rattle.benc.specs.Value.{Bencode}
use Rattle.filetree.specs.FileTree.{Walk, is_symlink, length_at, lacks_root}
use Rattle.filetree.specs.declared.file_tests.FileTest.{FileTest}
use Rattle.filetree.specs.declared.file_tests.FileTest.TheVariants.{Symlink, Length, Root}

-- the file of this dictionary is refused by the test
abbrev pub fails : FileTest → Bencode → Bool
fails Symlink file = is_symlink file
fails Length file = is_none (length_at file)
fails Root file = lacks_root file

-- some file at the end of these walks is
abbrev pub any_fails : FileTest → List Walk → Bool
any_fails test ws = list_any (λ w. fails test w.file) ws
