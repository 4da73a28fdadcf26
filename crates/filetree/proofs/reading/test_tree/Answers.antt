use Rattle.std.proofs.Common.{◌≡◌, Bool, true, false, sym, ◌∙◌}
use Rattle.benc.specs.View.{pairs_view}
use Rattle.filetree.specs.FileTree.{walks}
use Rattle.filetree.specs.Tests.{NoneHolds}
use Rattle.filetree.specs.TreeTests.{file_rows, shape_rows}
use Rattle.filetree.proofs.Tables.{passes_behind}
use Rattle.filetree.proofs.reading.test_tree.Goals as goal

-- a test that answered no
not_so : {A : Type 0} (r : Bool) → (A → r ≡ true) → r ≡ false → A → ⊥
not_so r holds fails a = let never : true ≡ false = sym (holds a) ∙ fails in cc

pub returns : goal.returns
returns c =
    let tree = pairs_view c.args.tree.now in
    let shape : NoneHolds (shape_rows tree) = ((λ bad. cc), (not_so c.has_bad_path.result c.has_bad_path.ensures.1 c.if-has_bad_path.false, tt)) in
    passes_behind (shape_rows tree) (file_rows (walks tree)) (λ _. Unit {0}) c.test_files.result shape c.test_files.ensures
