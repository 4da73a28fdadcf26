use Rattle.std.proofs.Common.{rules, sym, subst}
use Rattle.wire.specs.declared.message.Message.{Message}
use Rattle.session.specs.declared.verdict.Verdict.TheVariants.{BlockRefused, HashRefused}
use Rattle.session.specs.Session.{Step}
use Rattle.session.proofs.session.SessionOf.take.Goals as goal

pub returns-in-Err : goal.returns-in-Err
returns-in-Err g c =
    subst (λ (m : Message). Step c.args.self.now m (BlockRefused c.in-Err.refusal) c.take_blocks.new.self) (sym c.in-Piece.is) c.in-Err.ensures.refused

pub returns-in-Err-take_hashes : goal.returns-in-Err-take_hashes
returns-in-Err-take_hashes g c =
    subst (λ (m : Message). Step c.args.self.now m (HashRefused c.in-Err-take_hashes.refusal) c.take_hashes.new.self) (sym c.in-Hashes.is)
    c.in-Err-take_hashes.ensures.refused

pub returns-else-can_answer : goal.returns-else-can_answer
returns-else-can_answer g c = search rules
