use Rattle.std.proofs.Common.{◌≡◌, ◌∙◌}
use Rattle.folders.proofs.Layers.{unwrapped}
use Rattle.folders.proofs.Pieces.{other_count, read_whole}
use Rattle.seeding.specs.Leaves.{Pushes}
use Rattle.seeding.proofs.FedLeaves.{other_length, reads_tree}
use Rattle.seeding.proofs.leaves.read_tree.Goals as goal

pub returns-then-ne-clause-read : goal.returns-then-ne-clause-read
returns-then-ne-clause-read g c =
    other_length c.args.tree.now.length c.args.tree.now.root Pushes _ _ _ _ _ c.in_ok-take_all.ensures.read c.take_all.ensures.no_further
    (other_count _ _ _ c.if-ne.true c.ne.ensures)

pub returns-clause-read : goal.returns-clause-read
returns-clause-read g c =
    let shape : c.unwrap-shape.result ≡ c.args.tree.now.length =
    unwrapped c.of.result c.unwrap-shape.result _ c.unwrap-shape.ensures c.of.ensures.value in
    reads_tree c.args.tree.now.length c.args.tree.now.root _ _ c.new-leaves.result _
    (read_whole Pushes _ _ _ _ _ _ _ c.if-ne.false c.ne.ensures c.in_ok-take_all.ensures.read)
    c.new-leaves.ensures.content (c.new-leaves.ensures.length ∙ shape) c.requires.tree.0 c.finish.result c.finish.ensures
