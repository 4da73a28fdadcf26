use Rattle.btcheck_c.specs.Files.{WritesInfoHashes}
use Rattle.btcheck_c.specs.declared.thing.Kind.TheVariants as kind
use Rattle.btcheck_c.proofs.Throughs.{through}
use Rattle.btcheck_c.proofs.file_calls.btcheck_session_info_hashes.Goals as goal

pub returns-in-Session-clause-done : goal.returns-in-Session-clause-done
returns-in-Session-clause-done c = through (WritesInfoHashes c.info_hashes-answer.new.v2 c.info_hashes-answer.new.v1)
    c.args.handle.now.slot.held c.put.new.self.slot.held
    c.in-Some.thing.value c.deref_mut.result.now (kind.Session c.in-Session.session) (kind.Session c.in-Session.session) c.info_hashes-answer.result
    c.in-Some.ensures.taken c.deref_mut.ensures.value c.in-Session.is c.put.ensures c.info_hashes-answer.ensures.done
