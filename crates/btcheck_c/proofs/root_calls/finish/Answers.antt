use Rattle.std.proofs.Common.{refl, inl}
use Rattle.btcheck_c.proofs.root_calls.finish.Goals as goal

pub returns-clause-done : goal.returns-clause-done
returns-clause-done c =
    inl (refl, (c.finish.ensures.length, (c.finish.ensures.tree, (c.finish.new.self, refl, c.finish.ensures.begins))))
