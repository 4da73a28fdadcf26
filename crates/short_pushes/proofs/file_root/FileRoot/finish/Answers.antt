use Rattle.std.proofs.Common.{subst}
use Rattle.hashtree.specs.RootBuilder as builder
use Rattle.short_pushes.proofs.Roots.{root_ended}
use Rattle.short_pushes.proofs.file_root.FileRoot.finish.Goals as goal

pub returns-clause-tree : goal.returns-clause-tree
returns-clause-tree c = root_ended c.args.self.now c.hand_on.new.self c.finish.result.0 c.finish.result.1 c.hand_on.ensures.same c.hand_on.ensures.none
    (subst (λ b. builder.EndsWith b c.finish.result.0 c.finish.result.1) c.replace.ensures.value c.finish.ensures.tree)
