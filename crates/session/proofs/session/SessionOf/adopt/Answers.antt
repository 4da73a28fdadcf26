use Rattle.session.proofs.OneTree.{fill-keeps}
use Rattle.session.proofs.session.SessionOf.adopt.Goals as goal

pub returns-clause-keeps_known : goal.returns-clause-keeps_known
returns-clause-keeps_known g c =
    fill-keeps c.args.self.now c.args.tree 0 c.args.grown.leaves c.take_over.new.self c.take_over.result c.take_over.ensures.adopted
    c.take_over.ensures.refused
