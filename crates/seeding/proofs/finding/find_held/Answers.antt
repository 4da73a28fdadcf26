use Rattle.std.proofs.Common.{◌≡◌, ◌∙◌, length, ap, arith}
use Rattle.hashtree.specs.Tree.{block_count}
use Rattle.seeding.proofs.FedLeaves.{length-leaves}
use Rattle.seeding.proofs.finding.find_held.Goals as goal

pub grow-requires-clause-all : goal.grow-requires-clause-all
grow-requires-clause-all g c =
    let long : length c.bytes.result.now ≡ c.args.tree.now.length = omega (arith, c.if-bytes-tree.false) in
    ap length (c.leaves.ensures c.bytes.result.now c.bytes.ensures.bytes) ∙ length-leaves c.bytes.result.now ∙ ap block_count long
