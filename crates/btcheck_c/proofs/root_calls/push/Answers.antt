use Rattle.std.proofs.Common.{refl, inl}
use Rattle.btcheck_c.proofs.root_calls.push.Goals as goal

pub returns : goal.returns
returns c = inl (refl, (c.push.new.self, refl, c.push.ensures))
