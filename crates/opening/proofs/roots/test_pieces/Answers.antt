use Rattle.std.proofs.lemmas.Grind.{common_steps}
use Rattle.std.proofs.Common.{rules, arith}
use Rattle.opening.proofs.roots.test_pieces.Goals as goal

pub files-init : goal.files-init
files-init c = search rules

pub offset_bounds-files-file-index : goal.offset_bounds-files-file-index
offset_bounds-files-file-index c = search rules

pub overflow_sub-pieces : goal.overflow_sub-pieces
overflow_sub-pieces c = search rules

pub returns-then-more-pieces : goal.returns-then-more-pieces
returns-then-more-pieces c = grind (arith, common_steps)

pub overflow_add-pieces : goal.overflow_add-pieces
overflow_add-pieces c = search rules

pub files-preserved : goal.files-preserved
files-preserved c = grind (arith, common_steps)

pub returns : goal.returns
returns c = grind (arith, common_steps)
