use Rattle.std.proofs.Common.{refl, subst}
use Rattle.btcheck_c.specs.CheckCalls.{ChecksFile, StartsCheck}
use Rattle.btcheck_c.specs.declared.thing.Kind.TheVariants as kind
use Rattle.btcheck_c.proofs.Starting.{begins}
use Rattle.btcheck_c.proofs.check_calls.start_check.Goals as goal

pub returns-in-Session : goal.returns-in-Session
returns-in-Session c = begins (StartsCheck c.args.number) c.args.session.now.slot.held c.put.new.self.slot.held
    c.in-Some.thing.value c.deref_mut.result.now (kind.Session c.in-Session.lent) (kind.Session c.in-Session.lent) c.begun-answer.result
    c.in-Some.ensures.taken c.deref_mut.ensures.value c.in-Session.is c.put.ensures
    (refl, subst (λ d. ChecksFile d c.args.number c.begun-answer.result) c.torrent.ensures c.begun-answer.ensures)
