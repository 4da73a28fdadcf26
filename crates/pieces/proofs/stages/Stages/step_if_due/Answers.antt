use Rattle.std.proofs.Common.{◌≡◌, ℕ, List, ◌+◌, ◌*◌, ap, subst, sym, ◌∙◌, arith}
use Rattle.std.proofs.lemmas.Option.{none-some}
use Rattle.sha1.specs.Sha1.{sha1}
use Rattle.lanes.specs.declared.words.TheConstants.{LANES}
use Rattle.pieces.specs.Cuts.{cut}
use Rattle.pieces.specs.Staged.{CountsTold, IsPassing, steps_made, told_before}
use Rattle.pieces.specs.Stored.{slot_bytes}
use Rattle.pieces.proofs.stages.Stages.step_if_due.Goals as goal

pub returns-then-self-gt0-clause-does : goal.returns-then-self-gt0-clause-does
returns-then-self-gt0-clause-does c =
    let f = c.args.self.now in
    let steps : steps_made f ≡ f.piece + 1 = omega (arith, c.if-self-gt0.true) in
    record {
      counts = record { none = λ _. omega (arith, steps); one = λ d is. absurd (none-some d is) };
      passing = λ whole content. subst (λ n. IsPassing f.relay (slot_bytes f.store) f.store.size n whole content) steps;
      digest_is = λ whole content passing came d is. absurd (none-some d is);
    }

pub returns-clause-does : goal.returns-clause-does
returns-clause-does c =
    let f = c.args.self.now in
    let steps : steps_made f ≡ f.piece = omega (arith, c.if-self-gt0.false) in
    let on : (whole : ℕ) (content : List ℕ) → IsPassing f.relay (slot_bytes f.store) f.store.size (steps_made f) whole content
    → IsPassing f.relay (slot_bytes f.store) f.store.size f.piece whole content =
    λ whole content. subst (λ n. IsPassing f.relay (slot_bytes f.store) f.store.size n whole content) steps in
    record {
      counts = subst (λ n. CountsTold c.step.result (told_before n) (told_before (f.piece + 1))) (sym steps) c.step.ensures.counts;
      passing = λ whole content before. c.step.ensures.passing whole content (on whole content before);
      digest_is = λ whole content before came d is.
          c.step.ensures.digest whole content (on whole content before) (λ late. omega (arith, late, came)) d is
          ∙ ap (λ n. sha1 (cut (LANES * f.store.size) content (told_before n))) (sym steps);
    }
