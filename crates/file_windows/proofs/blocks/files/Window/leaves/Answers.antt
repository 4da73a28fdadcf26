use Rattle.std.proofs.Common.{rules, ◌≡◌, ◌∙◌, ◌+◌, ◌-◌, ℕ, length, take, drop, ap, arith}
use Rattle.std.proofs.lemmas.List.{length-drop, length-take}
use Rattle.hashtree.specs.Tree.{block_count}
use Rattle.file_windows.proofs.FileBlocks.{leaves_there}
use Rattle.file_windows.proofs.blocks.files.Window.leaves.Goals as goal

pub returns-clause-leaves : goal.returns-clause-leaves
returns-clause-leaves c buffer start has hashed inside =
    let w = c.args.self.now in
    let first : ℕ = c.args.first in
    let blocks : ℕ = c.div_ceil.result in
    let count : blocks ≡ block_count c.args.size = omega (arith, c.div_ceil.ensures) in
    let whole : length w.leaves ≡ 64 = search rules in
    let long : length (take blocks (drop first w.leaves)) ≡ blocks =
    length-take blocks (drop first w.leaves) ∙ omega (arith, length-drop first w.leaves, count, has.within, w.within, whole) in
    let width : first + blocks - first ≡ blocks = omega arith in
    ap (λ n. take n (drop first w.leaves)) width ∙ leaves_there w buffer first start c.args.size blocks has hashed inside count long
