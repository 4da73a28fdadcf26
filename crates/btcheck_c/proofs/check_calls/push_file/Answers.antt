use Rattle.std.proofs.Common.{rules, refl, inl}
use Rattle.btcheck_c.proofs.check_calls.push_file.Goals as goal

pub returns-clause-done : goal.returns-clause-done
returns-clause-done c = inl (refl, (c.push.new.self, refl, c.push.ensures))

pub push-requires : goal.push-requires
push-requires c = search rules
