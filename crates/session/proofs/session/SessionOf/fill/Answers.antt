use Rattle.session.proofs.OneTree.{fill-keeps}
use Rattle.session.proofs.session.SessionOf.fill.Goals as goal

pub returns-clause-keeps_known : goal.returns-clause-keeps_known
returns-clause-keeps_known g c =
    fill-keeps c.args.self.now c.args.tree c.args.layer c.args.hashes.now c.join_layer.new.self c.join_layer.result c.join_layer.ensures.filled
    c.join_layer.ensures.refused
