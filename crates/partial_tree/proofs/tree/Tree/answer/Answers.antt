use Rattle.std.proofs.Common.{ℕ, ◌-◌, ◌^◌, ◌≤◌, arith}
use Rattle.partial_tree.proofs.Powers.{exponent_le}
use Rattle.partial_tree.proofs.tree.Tree.answer.Goals as goal

pub answer_hashes-requires-clause-inside : goal.answer_hashes-requires-clause-inside
answer_hashes-requires-clause-inside g c =
    let k : ℕ = c.in-Ok.span in
    let room : ℕ = c.height-height.result - c.args.ask.now.base in
    let good = c.in-Ok.ensures.good in
    let le : 2 ^ k ≤ 2 ^ room = omega (arith, good.1, good.0.range_inside) in
    let small : k ≤ room = exponent_le k room le in
    omega (arith, good.0.base_inside, small)
