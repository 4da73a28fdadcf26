-- The tests of a file tree and of its files.
use Rattle.std.specs.Prelude.{◌≡◌, true, false, List, [], ◌∷◌, ◌++◌, is_none}
use Rattle.std.specs.List.{list_any}
use Rattle.benc.specs.Value.{Pairs}
use Rattle.filetree.specs.FileTree.{Walk, walks, is_directory, HasBadPath, is_symlink, length_at, lacks_root}
use Rattle.filetree.specs.Tests.{TestRow}
use Rattle.filetree.specs.declared.refusal.Refusal.TheVariants as refusals

-- the tests of the directories and their components
abbrev pub shape_rows : Pairs → List TestRow
shape_rows tree =
    record { holds = is_directory tree ≡ false; answer = refusals.Shape }
    ∷ record { holds = HasBadPath tree; answer = refusals.Path }
    ∷ []

-- the tests of files, each of any one of them
abbrev pub file_rows : List Walk → List TestRow
file_rows ws =
    record { holds = list_any (λ w. is_symlink w.file) ws ≡ true; answer = refusals.Symlink }
    ∷ record {
      holds = list_any (λ w. is_none (length_at w.file)) ws
          ≡ true;
      answer = refusals.Length;
    }
    ∷ record { holds = list_any (λ w. lacks_root w.file) ws ≡ true; answer = refusals.Root }
    ∷ []

-- the tests of the file tree
abbrev pub tree_rows : Pairs → List TestRow
tree_rows tree = shape_rows tree ++ file_rows (walks tree)
