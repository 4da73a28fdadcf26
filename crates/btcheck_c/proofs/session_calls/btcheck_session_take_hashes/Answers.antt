use Rattle.btcheck_c.specs.SessionCalls.{SessionTakesHashes}
use Rattle.btcheck_c.specs.declared.thing.Kind.TheVariants as kind
use Rattle.btcheck_c.proofs.Throughs.{through}
use Rattle.btcheck_c.proofs.session_calls.btcheck_session_take_hashes.Goals as goal

pub returns-in-Session-clause-done : goal.returns-in-Session-clause-done
returns-in-Session-clause-done c = through (SessionTakesHashes (record {
  root = c.args.root.now;
  base = c.args.base;
  index = c.args.index;
  length = c.args.length;
  proof = c.args.proof;
}) c.args.hashes.now c.take_hashes-answer.new.places)
    c.args.handle.now.slot.held c.put.new.self.slot.held
    c.in-Some.thing.value c.deref_mut.result.now (kind.Session c.in-Session.session) (kind.Session c.take_hashes-answer.new.session) c.take_hashes-answer.result
    c.in-Some.ensures.taken c.deref_mut.ensures.value c.in-Session.is c.put.ensures c.take_hashes-answer.ensures.done
