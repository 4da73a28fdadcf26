use Rattle.std.proofs.Common.{◌≡◌, [], subst}
use Rattle.std.proofs.lemmas.List.{nil_from_length}
use Rattle.btcheck_c.specs.CheckCalls.{PushesBits, PushesFile}
use Rattle.btcheck_c.specs.declared.thing.Kind.TheVariants as kind
use Rattle.btcheck_c.proofs.Throughs.{through}
use Rattle.btcheck_c.proofs.check_calls.btcheck_check_push.Goals as goal

pub returns-in-Check : goal.returns-in-Check
returns-in-Check c =
    let bytes = c.args.bytes.now in let status = c.push_file-answer.result in
    let no_bits : c.push_file-answer.new.good ≡ [] = nil_from_length c.push_file-answer.new.good c.push_file-answer.ensures.size in
    through (PushesFile bytes) c.args.handle.now.slot.held c.put.new.self.slot.held
    c.in-Some.thing.value c.deref_mut.result.now (kind.Check c.in-Check.check) (kind.Check c.push_file-answer.new.check) status
    c.in-Some.ensures.taken c.deref_mut.ensures.value c.in-Check.is c.put.ensures
    (subst (λ marks. PushesBits bytes [] marks (kind.Check c.in-Check.check) status
    (kind.Check c.push_file-answer.new.check)) no_bits c.push_file-answer.ensures.done)
