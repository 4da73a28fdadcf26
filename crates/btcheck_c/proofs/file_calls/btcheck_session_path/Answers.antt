use Rattle.std.proofs.Common.{subst, refl}
use Rattle.btcheck_c.specs.Files.{HasFilePath, WritesPath}
use Rattle.btcheck_c.specs.declared.thing.Kind.TheVariants as kind
use Rattle.btcheck_c.proofs.Throughs.{through}
use Rattle.btcheck_c.proofs.file_calls.btcheck_session_path.Goals as goal

pub returns-in-Session-clause-done : goal.returns-in-Session-clause-done
returns-in-Session-clause-done c = through (WritesPath c.args.number c.args.room.now c.write_path_of-answer.new.room c.write_path_of-answer.new.length)
    c.args.handle.now.slot.held c.put.new.self.slot.held
    c.in-Some.thing.value c.deref_mut.result.now (kind.Session c.in-Session.session) (kind.Session c.in-Session.session) c.write_path_of-answer.result
    c.in-Some.ensures.taken c.deref_mut.ensures.value c.in-Session.is c.put.ensures (
      refl,
      subst
          (λ d. HasFilePath d c.args.number c.write_path_of-answer.result c.args.room.now c.write_path_of-answer.new.room c.write_path_of-answer.new.length)
          c.torrent.ensures c.write_path_of-answer.ensures.done,
    )
