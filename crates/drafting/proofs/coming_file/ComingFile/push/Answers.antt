use Rattle.drafting.proofs.Coming.{some_more, takes_memory}
use Rattle.drafting.proofs.coming_file.ComingFile.push.Goals as goal

pub returns-in-Err-clause-memory : goal.returns-in-Err-clause-memory
returns-in-Err-clause-memory c = takes_memory c.args.self.now c.args.bytes.now c.in-Err.ensures.memory

pub invariant_of-self-in_default : goal.invariant_of-self-in_default
invariant_of-self-in_default c = record {
  given = some_more _ _ c.args.self.now.stage c.push.new.self c.args.bytes.now c.args.self.now.given c.in_default.ensures.worked
      c.in_default.ensures.fed;
}
