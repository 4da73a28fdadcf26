use Rattle.std.proofs.Common.{subst, sym}
use Rattle.btcheck_c.specs.WholeFrames.{MessageHeld, MessageTaken}
use Rattle.btcheck_c.proofs.frame_taking.hold_message.Goals as goal

pub returns-then-status-eq-DONE-clause-done : goal.returns-then-status-eq-DONE-clause-done
returns-then-status-eq-DONE-clause-done c =
    let S = c.args.session.now in let S' = c.take_message-status.new.session in let h = c.args.held.now in let h' = c.look_at_root.new.held in
    let status = c.take_message-status.result in
    subst (λ m. MessageHeld c.args.asked c.args.out.now c.take_message-status.new.out m S h status S' h') (sym c.in-Hashes.is) (
      subst (λ m. MessageTaken c.args.asked c.args.out.now c.take_message-status.new.out m S status S') c.in-Hashes.is c.take_message-status.ensures.done,
      record {
        taken = λ done. c.look_at_root.ensures;
        refused = λ other. absurd (other c.if-status-eq-DONE.true);
      },
    )
