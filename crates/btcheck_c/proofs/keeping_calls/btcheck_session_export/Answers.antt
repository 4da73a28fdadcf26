use Rattle.std.proofs.Common.{refl}
use Rattle.btcheck_c.specs.Keeping.{Exports}
use Rattle.btcheck_c.specs.declared.thing.Kind.TheVariants as kind
use Rattle.btcheck_c.proofs.Throughs.{through}
use Rattle.btcheck_c.proofs.keeping_calls.btcheck_session_export.Goals as goal

pub returns-in-Session-clause-done : goal.returns-in-Session-clause-done
returns-in-Session-clause-done c = through (Exports c.args.cursor.now c.args.room.now c.write_export-answer.new.cursor c.write_export-answer.new.room
    c.write_export-answer.new.length)
    c.args.handle.now.slot.held c.put.new.self.slot.held
    c.in-Some.thing.value c.deref_mut.result.now (kind.Session c.in-Session.session) (kind.Session c.in-Session.session) c.write_export-answer.result
    c.in-Some.ensures.taken c.deref_mut.ensures.value c.in-Session.is c.put.ensures (refl, c.write_export-answer.ensures.done)
