use Rattle.std.proofs.Common.{◌≡◌, ◌≤◌, List, [], ◌∷◌, length, false, refl, arith}
use Rattle.benc.specs.View.{pairs_view}
use Rattle.benc.specs.declared.value.Pair.{Pair}
use Rattle.filetree.specs.FileTree.{is_file}
use Rattle.filetree.proofs.shape.is_file.Goals as goal

several : (ps : List Pair) → 2 ≤ length ps → false ≡ is_file (pairs_view ps)
several [] h = absurd (omega arith)
several (p ∷ []) h = absurd (omega arith)
several (p ∷ q ∷ ps) h = refl

pub returns-in_default-2 : goal.returns-in_default-2
returns-in_default-2 c = several c.args.pairs.now c.in_default.len_at_least
